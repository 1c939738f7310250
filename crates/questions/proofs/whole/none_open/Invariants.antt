use Rattle.std.proofs.Common.{◌≡◌, eqb}
use Rattle.laws.specs.Tests.{every}
use Rattle.rules.specs.Numbers.{CLOSED}
use Rattle.rules.specs.Tables.{call_of}
use Rattle.questions.proofs.whole.none_open.Given as goal

abbrev pub invariant-loop-t : goal.invariant-loop-t
invariant-loop-t l = l.closed ≡ every l.t (λ k. eqb (call_of l.calls k).stage CLOSED)
