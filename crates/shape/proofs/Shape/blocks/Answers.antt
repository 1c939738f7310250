-- `shape::Shape::blocks` meets its contract: all blocks lie above the level behind the deepest.
-- Assumes nothing.
use native.Mathlib.Omega.{arith}
use Rattle.shape.specs.Blocks.{blocks}
use Rattle.shape.specs.Laws.{limits, blocks-some}
use Rattle.shape.proofs.Shape.blocks.Goals as goal

pub returns : goal.returns
unfolding blocks
returns c = omega (arith, blocks-some c.args.self (limits _ c.requires))
