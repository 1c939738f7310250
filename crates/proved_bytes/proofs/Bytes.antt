-- A free run of a pool's tables is one of the blocks as trees.
-- Assumes nothing.
use Rattle.std.specs.Prelude.{◌↔◌, List, ℕ, ◌≤◌, ◌<◌}
use Rattle.shape.specs.declared.Shape.{Shape}
use Rattle.shape.specs.Blocks.{size, count}
use Rattle.shape.specs.Laws.{Limits}
use Rattle.shape.specs.Offsets.{size-some}
use Rattle.proved_bytes.specs.Runs.{Run}
use Rattle.proved_bytes.specs.Tables.{state_in}
use Rattle.proved_bytes.specs.Bytes.{FreeRun, lies_in, byte_inside, free-tree, tree_free}

module _ (s : Shape) (states : List ℕ) (h : Limits s) where
  pub run-tree :
      (k b : ℕ) → k < s.levels → b < count s k →
      FreeRun s states k b ↔ Run s.levels (size s) (state_in s states) k b
  run-tree k b q i = (
    λ r y e. let w = (lies_in s k b y some).0 e in tree_free s states h y (byte_inside s k b y h q i w.1) (r y w.0 w.1),
    λ r y m n. free-tree s states h y (r y ((lies_in s k b y some).1 (m, n))),
  )
    where
      some : 1 ≤ size s k
      some = size-some s k h q
