use Rattle.std.proofs.Common.{◌≡◌}
use Rattle.laws.specs.Tests.{every}
use Rattle.rules.specs.Tables.{call_of}
use Rattle.rules.specs.Valid.{call_kept}
use Rattle.check_calls.proofs.calls_valid.Given as goal

abbrev pub invariant-loop-t : goal.invariant-loop-t
invariant-loop-t l = l.ok ≡ every l.t (λ u. call_kept l.s l.clock (call_of l.calls u))
