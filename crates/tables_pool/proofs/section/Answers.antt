-- `tables_pool::section` meets its contract: the lists' lengths stand before the members, and a level's members behind those of the levels above.
-- Assumes nothing.
use native.Mathlib.Omega.{arith}
use Rattle.shape.specs.Laws.{limits}
use Rattle.tables_pool.proofs.section.Goals as goal

pub overflow_add-result : goal.overflow_add-result
overflow_add-result c = omega (arith, limits c.args.s c.requires.0)

pub returns : goal.returns
returns c = omega (arith, limits c.args.s c.requires.0)
