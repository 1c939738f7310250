-- `shape::Shape::bytes` meets its contract: sixteen top blocks of 65,536 bytes fit.
-- Assumes nothing.
use native.Mathlib.Omega.{arith}
use native.Mathlib.Nat.{mul-le-mul}
use Rattle.shape.specs.Laws.{limits}
use Rattle.shape.proofs.Shape.bytes.Goals as goal

pub overflow_mul-result : goal.overflow_mul-result
overflow_mul-result c = omega (arith, mul-le-mul (limits c.args.self c.requires).tops.1 (limits c.args.self c.requires).top.1)
