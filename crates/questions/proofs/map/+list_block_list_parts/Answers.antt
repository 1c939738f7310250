-- The cycle of calls {list_block, list_parts} meets its contracts: a divided block lists its parts and any other its id, and parts list one block
-- behind the other.
-- Assumes nothing.
use Rattle.std.proofs.Common.{arith}
use Rattle.shape.specs.Limits.{parts}
use Rattle.rules.specs.Questions.{listed}
use Rattle.questions.proofs.Listings.{deep, none, single, single-out, behind, listed_more, divided, undivided, most, id-most, parts-listable, part-listable}
use Rattle.questions.proofs.map.+list_block_list_parts.Goals as goal

pub list_block-overflow_mul-block : goal.list_block-overflow_mul-block
list_block-overflow_mul-block t c = omega (arith, most c.requires)

pub list_block-list_parts-requires : goal.list_block-list_parts-requires
unfolding parts
list_block-list_parts-requires t c = (
  omega (arith, deep c.args.depth _ c.if-depth-state.true),
  parts-listable (deep _ _ c.if-depth-state.true) c.requires,
)

pub list_block-returns-then-depth-state : goal.list_block-returns-then-depth-state
unfolding parts
list_block-returns-then-depth-state t c =
    rw (divided _ _ _ _ _ c.requires.depth c.place.ensures.0 c.if-depth-state.true) c.list_parts.ensures

pub list_block-overflow_add-next : goal.list_block-overflow_add-next
list_block-overflow_add-next t c = omega (arith, most c.requires)

pub list_block-overflow_cast-row : goal.list_block-overflow_cast-row
list_block-overflow_cast-row t c = omega (arith, id-most c.requires)

pub list_block-returns-then-at-row : goal.list_block-returns-then-at-row
list_block-returns-then-at-row t c =
    rw (undivided _ _ _ _ _ _ c.place.ensures.0 c.if-depth-state.false, ← c.id.ensures) (single _ _ _)

pub list_block-returns-else-at-row : goal.list_block-returns-else-at-row
list_block-returns-else-at-row t c =
    rw (undivided _ _ _ _ _ _ c.place.ensures.0 c.if-depth-state.false) (single-out _ _ _ c.if-at-row.false)

pub list_parts-loop-i-init : goal.list_parts-loop-i-init
unfolding listed
list_parts-loop-i-init t c = none _ _

pub list_parts-overflow_add-block : goal.list_parts-overflow_add-block
list_parts-overflow_add-block t c = omega (arith, most c.requires)

pub list_parts-list_block-next-requires : goal.list_parts-list_block-next-requires
list_parts-list_block-next-requires t c = (
  omega arith,
  part-listable c.requires c.loop-i-test.true c.loop-i.invariant.answered,
)

pub list_parts-loop-i-preserved : goal.list_parts-loop-i-preserved
list_parts-loop-i-preserved t c = rw listed_more (behind c.loop-i.invariant c.list_block-next.ensures)
