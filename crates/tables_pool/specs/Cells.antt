-- A table with a cell for each block, as the states and the owners are.
-- Assumes nothing.
use Rattle.std.specs.Prelude.{◌≡◌, true, List, ℕ, ◌<◌, length}
use Rattle.shape.specs.declared.Shape.{Shape}
use Rattle.shape.specs.Limits.{allowed}
use Rattle.shape.specs.Blocks.{count, blocks}

-- block b of level l is a block of the shape, and the table has a cell for each
pub record HasBlock (s : Shape) (cells : List ℕ) (l b : ℕ) : Type 0 where
  pub shape : allowed s ≡ true
  pub level : l < s.levels
  pub block : b < count s l
  pub whole : length cells ≡ blocks s
