-- `shape::Shape::place` meets its contract: what lies above the level, and the block's number.
-- Assumes nothing.
use native.Mathlib.Omega.{arith}
use Rattle.shape.specs.Laws.{limits, count-range, place_inside}
use Rattle.shape.proofs.Shape.place.Goals as goal

pub overflow_add-result : goal.overflow_add-result
overflow_add-result c = omega (arith, count-range _ c.args.level (limits c.args.self c.requires.0) c.requires.1)

pub returns : goal.returns
returns c = omega (arith, place_inside c.args.self c.args.level c.args.block c.requires.1 c.requires.2)
