-- Map's blocks divide the pool: each is an undivided existing block, each begins where the last ended, and the last ends where the pool does.
-- Assumes nothing.
use Rattle.std.specs.Prelude.{◌≡◌, true}
use mathlib.Core.List.{List, [], ◌∷◌, ◌++◌}
use Prim.Native.Nat.{ℕ, ◌+◌, ◌<◌}
use Rattle.shape.specs.declared.Shape.{Shape}
use Rattle.shape.specs.Blocks.{size, count, offset}
use Rattle.rules.specs.Tables.{state_at}
use Rattle.rules.specs.Questions.{undivided}

-- an undivided existing block of the shape
pub record Standing (s : Shape) (states : List ℕ) (l b : ℕ) : Type 0 where
  pub level : l < s.levels
  pub block : b < count s l
  pub whole : undivided (state_at s states l b) ≡ true

-- how many bytes blocks have together
unfoldable pub sizes : Shape → List (ℕ × ℕ) → ℕ
sizes s [] = 0
sizes s (p ∷ rest) = size s p.0 + sizes s rest

-- undivided existing blocks one behind the other, the first from one byte on and the last up to another
unfoldable pub Follow : Shape → List ℕ → ℕ → List (ℕ × ℕ) → ℕ → Type 0
Follow s states from [] to = from ≡ to
Follow s states from (p ∷ rest) to =
    Standing s states p.0 p.1 × (offset s p.0 p.1 ≡ from) × Follow s states (from + size s p.0) rest to

-- a block stands among others, these before it and those behind it
abbrev pub Among : List (ℕ × ℕ) → List (ℕ × ℕ) → ℕ → ℕ → List (ℕ × ℕ) → Type 0
Among ps before l b behind = ps ≡ before ++ ((l, b) ∷ behind)
