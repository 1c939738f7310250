-- `shape::Shape::id` meets its contract: its three fields are small.
-- Assumes nothing.
use native.Mathlib.Omega.{arith}
use Rattle.shape.specs.Laws.{limits, count-range}
use Rattle.shape.proofs.Shape.id.Goals as goal

pub overflow_mul-result : goal.overflow_mul-result
overflow_mul-result c = omega (arith, limits c.args.self c.requires.0)

pub overflow_add-result : goal.overflow_add-result
overflow_add-result c = omega (arith, limits c.args.self c.requires.0)

pub overflow_mul-result-2 : goal.overflow_mul-result-2
overflow_mul-result-2 c = omega (arith, limits c.args.self c.requires.0, count-range _ c.args.level (limits c.args.self c.requires.0) c.requires.1)

pub overflow_add-result-2 : goal.overflow_add-result-2
overflow_add-result-2 c = omega (arith, limits c.args.self c.requires.0, count-range _ c.args.level (limits c.args.self c.requires.0) c.requires.1)
