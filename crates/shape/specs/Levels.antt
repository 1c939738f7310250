-- Tests over all blocks, level by level or place by place.
-- Assumes nothing.
use Rattle.std.specs.Prelude.{◌≡◌, Bool, ◌&&◌, ℕ, zero, suc, ◌+◌, ◌*◌, ◌-◌, ◌≤◌}
use Rattle.std.proofs.Common.{◌∙◌, ap, add-zero, add-suc, add-one, arith}
use Rattle.std.proofs.Math.Bool.{and_assoc, and-true}
use Rattle.laws.specs.Tests.{every}
use Rattle.shape.specs.declared.Shape.{Shape}
use Rattle.shape.specs.Limits.{parts}
use Rattle.shape.specs.Blocks.{count, above, place, blocks}
use Rattle.shape.specs.Laws.{above-none, above-next, above-parts}

-- a test of the first m numbers and of the n behind them
pub every-behind : (m n : ℕ) (f : ℕ → Bool) → every (m + n) f ≡ (every m f && every n (λ i. f (m + i)))
unfolding every
every-behind m zero f = rw (add-zero, and-true)
every-behind m (suc n) f = rw (add-suc, every-behind m n f) (and_assoc (every m f) (every n (λ i. f (m + i))) (f (m + n)))

-- a test of every block above level n, level by level, is a test of every place above it
pub every-place :
    (s : Shape) (n : ℕ) (f : ℕ → Bool) → every n (λ l. every (count s l) (λ b. f (place s l b))) ≡ every (above s n) f
unfolding every
every-place s zero f = rw above-none
every-place s (suc n) f = rw (← add-one n, above-next, every-behind, every-place s n f)

-- all blocks are the top blocks, and the parts of all blocks above the deepest level
pub blocks-parts : (s : Shape) → 1 ≤ s.levels → blocks s ≡ s.tops + parts s * above s (s.levels - 1)
unfolding blocks
blocks-parts s h = ap (above s) deepest ∙ above-parts s (s.levels - 1)
  where
    deepest : s.levels ≡ s.levels - 1 + 1
    deepest = omega arith

-- the deepest level stands last
pub blocks-deepest : (s : Shape) → 1 ≤ s.levels → blocks s - above s (s.levels - 1) ≡ count s (s.levels - 1)
unfolding blocks
blocks-deepest s h = omega (arith, above-next s (s.levels - 1), ap (above s) deepest)
  where
    deepest : s.levels - 1 + 1 ≡ s.levels
    deepest = omega arith
