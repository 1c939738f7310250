-- `check_counts::count_few` meets its contract: the sum counts the states passed, and there are few enough that it fits.
-- Assumes nothing.
use Rattle.std.proofs.Common.{arith}
use Rattle.check_counts.specs.Counted.{passed_none, passed-most, passed-more}
use Rattle.check_counts.proofs.count_few.Goals as goal

pub loop-state-init : goal.loop-state-init
loop-state-init c = passed_none _ _ _

pub overflow_add-sum : goal.overflow_add-sum
overflow_add-sum c = omega (arith, passed-most (passed-more c.loop-state.invariant c.loop-state-test.true))

pub loop-state-preserved : goal.loop-state-preserved
loop-state-preserved c = passed-more c.loop-state.invariant c.loop-state-test.true
