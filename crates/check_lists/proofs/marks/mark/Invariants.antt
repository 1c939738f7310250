use Rattle.check_lists.proofs.Marking.{Marked}
use Rattle.check_lists.proofs.marks.mark.Given as goal

abbrev pub invariant-loop-member : goal.invariant-loop-member
invariant-loop-member l = Marked l.members l.marks l.member-index
