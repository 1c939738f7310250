-- `check_lists::marks::mark` meets its contract: of the members passed, and of no other block, the bits are set.
-- Assumes nothing.
use native.Mathlib.Omega.{arith}
use Rattle.check_lists.proofs.Marking.{marked-none, marked-at, marked_more}
use Rattle.check_lists.proofs.marks.mark.Goals as goal

pub loop-member-init : goal.loop-member-init
loop-member-init c = marked-none _ _ c.requires

pub overflow_shl-marks : goal.overflow_shl-marks
overflow_shl-marks c = omega (arith, marked-at c.loop-member.invariant c.loop-member-test.true)

pub loop-member-preserved : goal.loop-member-preserved
loop-member-preserved c = marked_more c.loop-member.invariant c.loop-member-test.true
