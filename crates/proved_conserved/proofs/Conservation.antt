-- Conservation: bytes by state sum to the pool's bytes, in valid tables and so after every step of every history.
-- Assumes nothing.
use Rattle.std.specs.Prelude.{◌≡◌, true, ℕ, ◌+◌, ◌≤◌, take}
use Rattle.std.proofs.Math.Path.{refl}
use Rattle.std.proofs.Common.{◌∙◌}
use mathlib.Core.List.{List, [], ◌∷◌}
use native.Mathlib.Omega.{arith}
use borrow.Author.Tests.{leb-true}
use Rattle.laws.specs.Tests.{every-at}
use Rattle.shape.specs.declared.Shape.{Shape}
use Rattle.shape.specs.Limits.{allowed}
use Rattle.shape.specs.Blocks.{size, place, blocks, bytes}
use Rattle.shape.specs.Laws.{place_inside}
use Rattle.rules.specs.Numbers.{ALLOCATED, FREE, FREEING, ALLOCATING}
use Rattle.rules.specs.Tables.{State, state_at, fresh}
use Rattle.rules.specs.Valid.{states_known, valid}
use Rattle.facts.specs.Lines.{Sound, valid-facts}
use Rattle.history.specs.History.{Step, step_on, run_steps}
use Rattle.proved_valid.specs.Histories.{steps-valid, runs-valid, histories-valid}
use Rattle.proved_conserved.specs.Pairs.{map_pairs}
use Rattle.proved_conserved.specs.Partition.{Standing, sizes, Follow}
use Rattle.proved_conserved.proofs.Partition.{map-follows, map-bytes}
use Rattle.proved_conserved.specs.Conservation.{sizes_in, bytes_of, bytes_of_all, four}

module _ (s : Shape) (states : List ℕ) (k : states_known s states ≡ true) where
  known : (l b : ℕ) → Standing s states l b → state_at s states l b ≤ 5
  unfolding states_known
  known l b w = leb-true _ _ (every-at (blocks s) _ k (place s l b) (place_inside s l b w.level w.block))

  -- blocks that follow each other have their bytes in these four states
  follow-states :
      (a c : ℕ) (ps : List (ℕ × ℕ)) → Follow s states a ps c →
      sizes_in s states ALLOCATED ps + sizes_in s states FREE ps + sizes_in s states FREEING ps + sizes_in s states ALLOCATING ps
      ≡ sizes s ps
  unfolding Follow sizes sizes_in
  follow-states a c [] f = refl
  follow-states a c (p ∷ ps) (w, e, f) =
      omega (
        arith,
        four (size s p.0) (state_at s states p.0 p.1) (known p.0 p.1 w) w.whole,
        follow-states (a + size s p.0) c ps f,
      )

-- bytes by state sum to the pool's bytes
pub conserved : (s : Shape) (T : State) → allowed s ≡ true → valid s T ≡ true → bytes_of_all s T.pool.states ≡ bytes s
unfolding bytes_of
conserved s T a v =
    follow-states s T.pool.states (valid-facts s T v).pool.states_known 0 (bytes s) (map_pairs s T.pool.states) (map-follows s T a v)
    ∙ map-bytes s T a v

-- so they do after a step
pub step-conserves : (s : Shape) (T : State) (x : Step) → Sound s T → bytes_of_all s (step_on s T x).after.pool.states ≡ bytes s
step-conserves s T x k = conserved s (step_on s T x).after k.shape (steps-valid s T x k).valid

-- and after every step of a history that begins with valid tables
pub run-conserves :
    (s : Shape) (T : State) (xs : List Step) (n : ℕ) → Sound s T → bytes_of_all s (run_steps s T (take n xs)).pool.states ≡ bytes s
run-conserves s T xs n k = conserved s (run_steps s T (take n xs)) k.shape (runs-valid s (take n xs) T k).valid

-- as one that begins with fresh tables does
pub history-conserves :
    (s : Shape) (xs : List Step) (n : ℕ) → allowed s ≡ true →
    bytes_of_all s (run_steps s (fresh s) (take n xs)).pool.states ≡ bytes s
history-conserves s xs n a = conserved s (run_steps s (fresh s) (take n xs)) a (histories-valid s xs n a).valid
