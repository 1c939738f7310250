-- `shape::Shape::offset` meets its contract: a block's number and size are small.
-- Assumes nothing.
use native.Mathlib.Omega.{arith}
use native.Mathlib.Nat.{mul-le-mul, le_of_lt, le_trans}
use Rattle.shape.specs.Laws.{limits, count-range, size-most}
use Rattle.shape.proofs.Shape.offset.Goals as goal

pub size-requires : goal.size-requires
size-requires c = omega (arith, limits c.args.self c.requires.0)

pub overflow_mul-result : goal.overflow_mul-result
overflow_mul-result c =
    omega (
      arith,
      mul-le-mul (le_trans (le_of_lt c.requires.2) (count-range _ c.args.level (limits c.args.self c.requires.0) c.requires.1).1)
          (rw (← c.size.ensures) at (size-most c.args.self c.args.level (limits c.args.self c.requires.0))),
    )
