-- `questions::map::list_pool` meets its contract: the top blocks are the parts of the pool, with all levels but one below them.
-- Assumes nothing.
use native.Mathlib.Omega.{arith}
use Rattle.shape.specs.Laws.{limits}
use Rattle.questions.proofs.Rows.{pool-listable, pool-ids}
use Rattle.questions.proofs.map.list_pool.Goals as goal

pub overflow_sub-s : goal.overflow_sub-s
overflow_sub-s c = omega (arith, limits c.args.s c.requires.0)

pub list_parts-requires : goal.list_parts-requires
list_parts-requires c = pool-listable _ _ c.requires.0 c.requires.1

pub returns : goal.returns
returns c = rw pool-ids c.list_parts.ensures
