-- `tables_pool::remove_parts` meets its contract: the list's section is lent, and comes back without the block's parts.
-- Assumes nothing.
use native.Mathlib.Omega.{arith}
use Rattle.laws.specs.Lists.{keep}
use Rattle.laws.specs.Keep.{keep-most}
use Rattle.shape.specs.Limits.{parts}
use Rattle.tables_pool.specs.Row.{elsewhere}
use Rattle.tables_pool.proofs.Members.{bounds, lent-count, lent_back}
use Rattle.tables_pool.proofs.remove_parts.Goals as goal

pub slice_bounds-remove_parts-end : goal.slice_bounds-remove_parts-end
slice_bounds-remove_parts-end c = omega (arith, bounds c.requires)

pub overflow_cast-lists : goal.overflow_cast-lists
overflow_cast-lists c =
    record {
      fits =
          omega (
            arith,
            lent-count
                c.requires
                c.section-from.ensures.0
                c.count.ensures.0
                (keep (elsewhere 4 c.args.parent))
                (keep-most _)
                c.remove_parts-kept.ensures.0,
          );
    }

pub returns : goal.returns
unfolding parts
returns c =
    lent_back
    c.requires
    c.section-from.ensures.0
    c.count.ensures.0
    (keep (elsewhere 4 c.args.parent))
    (keep-most _)
    c.remove_parts-kept.ensures.1
    c.remove_parts-kept.ensures.0
