-- `questions::map::map_row` meets its contract: a row with a place for each block of the deepest level is long enough; for another the first
-- listing counts and writes nothing, and the second writes where the row is long enough.
-- Assumes nothing.
use native.Mathlib.Omega.{arith}
use Rattle.shape.specs.Laws.{limits}
use Rattle.questions.proofs.Rows.{roomy, mapped, too_short, counted-first}
use Rattle.questions.proofs.map.map_row.Goals as goal

pub overflow_sub-s : goal.overflow_sub-s
overflow_sub-s c = omega (arith, (limits _ c.requires.0).levels.0)

pub count-requires : goal.count-requires
count-requires c = (c.requires.0, omega (arith, (limits _ c.requires.0).levels.0))

pub returns-then-count-row : goal.returns-then-count-row
returns-then-count-row c = mapped _ _ (omega (arith, roomy c.args.s c.args.states.now, c.count.ensures.0, c.if-count-row.true)) c.list_pool.ensures

pub returns-then-row-count : goal.returns-then-row-count
returns-then-row-count c = too_short _ _ _ _ _ c.list_pool-count.ensures c.if-row-count.true

pub returns : goal.returns
returns c = counted-first _ _ _ _ _ c.list_pool-count.ensures c.if-row-count.false c.list_pool-2.ensures
