use Rattle.check_hands.proofs.Passed.{Looked}
use Rattle.check_hands.proofs.hands_valid.Given as goal

abbrev pub invariant-loop-t : goal.invariant-loop-t
invariant-loop-t l = Looked l.s l.states l.calls l.ok l.sum l.t
