-- Free bytes and free runs of a pool's tables, and that they are those of the blocks as trees.
-- Assumes nothing.
use Rattle.std.specs.Prelude.{◌≡◌, ◌↔◌, List, ℕ, ◌+◌, ◌/◌, ◌≤◌, ◌<◌}
use Rattle.std.proofs.Common.{◌∙◌, div-mul-le_self, mul-le-mul_right, arith}
use Rattle.std.proofs.Math.Nat.{lt-div-mul-add, div-eq_of_lt-le}
use Rattle.shape.specs.declared.Shape.{Shape}
use Rattle.shape.specs.Blocks.{size, count, offset, bytes}
use Rattle.shape.specs.Laws.{Limits}
use Rattle.shape.specs.Offsets.{count-fills, over-inside}
use Rattle.rules.specs.Numbers.{FREE}
use Rattle.rules.specs.Tables.{state_at}
use Rattle.proved_bytes.specs.Runs.{Free}
use Rattle.proved_bytes.specs.Room.{Room}
use Rattle.proved_bytes.specs.Tables.{state_in, state-inside, state-known}

-- some FREE block lies over byte y
abbrev pub FreeByte : Shape → List ℕ → ℕ → Type 0
FreeByte s states y = (l : ℕ) × (l < s.levels) × (state_at s states l (y / size s l) ≡ FREE)

-- all bytes of block b of level k are free, whether it exists or not
abbrev pub FreeRun : Shape → List ℕ → ℕ → ℕ → Type 0
FreeRun s states k b = (y : ℕ) → offset s k b ≤ y → y < offset s k (b + 1) → FreeByte s states y

-- level k or one above it has a FREE block
abbrev pub FreeBlock : Shape → List ℕ → ℕ → Type 0
FreeBlock s states k = (l : ℕ) × (b : ℕ) × (l ≤ k) × (b < count s l) × (state_at s states l b ≡ FREE)

-- byte y is one of those of block b of level l
abbrev pub HasByte : Shape → ℕ → ℕ → ℕ → Type 0
HasByte s l b y = (offset s l b ≤ y) × (y < offset s l (b + 1))

-- a byte lies in the block of a level that starts at the last multiple of the level's size before it
pub lies_in : (s : Shape) (l b y : ℕ) → 1 ≤ size s l → (y / size s l ≡ b) ↔ HasByte s l b y
lies_in s l b y h = (inside, λ (k, q). div-eq_of_lt-le (size s l) k q)
  where
    inside : y / size s l ≡ b → HasByte s l b y
    inside e = rw (← e) (omega (arith, div-mul-le_self y (size s l), lt-div-mul-add {a = y} h))

-- the bytes of a block are bytes of the pool
pub byte_inside :
    (s : Shape) (l b y : ℕ) → Limits s → l < s.levels → b < count s l → y < offset s l (b + 1) → y < bytes s
byte_inside s l b y h k i n =
    omega (arith, count-fills s l h k, mul-le-mul_right {m = b + 1} {n = count s l} (size s l) (omega arith))

module _ (s : Shape) (states : List ℕ) (h : Limits s) where
  -- the same free bytes, runs and blocks, said of the blocks as trees
  pub free-tree : (y : ℕ) → Free s.levels (size s) (state_in s states) y → FreeByte s states y
  free-tree y (l, q, e) = (l, q, (state-known s states l (y / size s l) (omega arith) e).1)

  pub tree_free : (y : ℕ) → y < bytes s → FreeByte s states y → Free s.levels (size s) (state_in s states) y
  tree_free y k (l, q, e) = (l, q, state-inside s states l (y / size s l) (over-inside s l y h q k) ∙ e)

  pub room-tree : (k : ℕ) → k < s.levels → FreeBlock s states k ↔ Room (state_in s states) k
  room-tree k q = (
    λ (l, b, w, i, e). (l, b, w, state-inside s states l b i ∙ e),
    λ (l, b, w, e). let n = state-known s states l b (omega arith) e in (l, b, w, n.0, n.1),
  )
