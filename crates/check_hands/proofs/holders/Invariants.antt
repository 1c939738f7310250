use Rattle.std.proofs.Common.{◌≡◌}
use Rattle.laws.specs.Tests.{tally}
use Rattle.rules.specs.Tables.{call_of}
use Rattle.rules.specs.Valid.{in_hand}
use Rattle.check_hands.specs.Hands.{at_stage}
use Rattle.check_hands.proofs.holders.Given as goal

abbrev pub invariant-loop-t : goal.invariant-loop-t
invariant-loop-t l = l.sum ≡ tally l.t (λ u. in_hand (at_stage l.stage) l.level l.block (call_of l.calls u))
