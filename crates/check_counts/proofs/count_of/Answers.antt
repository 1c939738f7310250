-- `check_counts::count_of` meets its contract: the sum counts the states of the parts passed, and then those that are left.
-- Assumes nothing.
use Rattle.std.specs.Prelude.{refl, ◌+◌}
use Rattle.std.proofs.Common.{arith, drop-drop}
use Rattle.check_counts.specs.Counted.{few, passed_none, passed-most, passed-all}
use Rattle.check_counts.proofs.Parts.{passed-few, passed-left}
use Rattle.check_counts.proofs.count_of.Goals as goal

pub loop-part-init : goal.loop-part-init
loop-part-init c = (0, refl, passed_none _ _ _)

pub overflow_add-sum : goal.overflow_add-sum
overflow_add-sum c =
    let (i, e, p) = c.loop-part.invariant in
    let cut = c.in-Some.ensures.cases in
    omega (arith, passed-most (passed-few p e (omega (arith, cut.2)) cut.0 c.count_few.ensures))

pub loop-part-preserved : goal.loop-part-preserved
loop-part-preserved c =
    let (i, e, p) = c.loop-part.invariant in
    let cut = c.in-Some.ensures.cases in
    (i + few, rw (cut.1, e) (drop-drop few i _), passed-few p e (omega (arith, cut.2)) cut.0 c.count_few.ensures)

pub overflow_add-result : goal.overflow_add-result
overflow_add-result c =
    let (i, e, p) = c.loop-part.invariant in
    omega (arith, passed-most (passed-left p e c.count_few-2.ensures))

pub returns : goal.returns
returns c =
    let (i, e, p) = c.loop-part.invariant in
    passed-all (passed-left p e c.count_few-2.ensures) (omega arith)
