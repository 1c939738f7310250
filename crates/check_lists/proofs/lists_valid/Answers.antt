-- `check_lists::lists_valid` meets its contract: the levels passed are as validity says.
-- Assumes nothing.
use mathlib.Core.Path.{sym, ◌∙◌}
use native.Mathlib.Omega.{arith}
use Rattle.check_lists.proofs.Levels.{reached-none, room, levels-fail, levels-more, levels-end}
use Rattle.check_lists.proofs.lists_valid.Goals as goal

pub loop-level-init : goal.loop-level-init
loop-level-init c = reached-none _ _ _ c.requires

pub overflow_add-to : goal.overflow_add-to
overflow_add-to c = omega (arith, room c.loop-level.invariant c.loop-level-test.true c.count.ensures.0)

pub overflow_add-start : goal.overflow_add-start
overflow_add-start c = omega (arith, room c.loop-level.invariant c.loop-level-test.true c.count.ensures.0)

pub overflow_add-end : goal.overflow_add-end
overflow_add-end c = omega (arith, room c.loop-level.invariant c.loop-level-test.true c.count.ensures.0)

pub slice_bounds-level_valid-end : goal.slice_bounds-level_valid-end
slice_bounds-level_valid-end c = omega (arith, room c.loop-level.invariant c.loop-level-test.true c.count.ensures.0)

pub returns-then-not-level_valid : goal.returns-then-not-level_valid
returns-then-not-level_valid c = levels-fail (room c.loop-level.invariant c.loop-level-test.true c.count.ensures.0) (sym c.level_valid.ensures ∙ c.if-not-level_valid.true)

pub loop-level-preserved : goal.loop-level-preserved
loop-level-preserved c = levels-more c.loop-level.invariant (room c.loop-level.invariant c.loop-level-test.true c.count.ensures.0) (sym c.level_valid.ensures ∙ c.if-not-level_valid.false)

pub returns : goal.returns
returns c = levels-end c.loop-level.invariant c.loop-level-test.false
