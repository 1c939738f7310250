-- What the passes say of the lines of validity: each its own, and all together.
-- Assumes nothing.
use mathlib.Core.Path.{◌≡◌, refl, sym, ◌∙◌, ap}
use mathlib.Core.Bool.{Bool, true, false, not, ◌&&◌, ◌||◌, and-true, and-false}
use mathlib.Core.List.{List}
use Prim.Native.Nat.{ℕ, zero, suc, ◌+◌, ◌-◌, ◌≤◌}
use Rattle.std.proofs.Common.{add-one}
use native.Mathlib.Omega.{arith}
use lib.ListN.{length, get_or, take, drop, length-drop}
use lib.Seq.{get_or-drop}
use lib.Dec.{eqb}
use Rattle.std.specs.List.{list_any}
use Rattle.std.proofs.lemmas.List.Folds.{list_any_more}
use Rattle.laws.specs.Tests.{every, every-same}
use Rattle.shape.specs.declared.Shape.{Shape}
use Rattle.shape.specs.Limits.{allowed}
use Rattle.shape.specs.Blocks.{above, blocks}
use Rattle.shape.specs.Laws.{limits, above-none, above-up}
use Rattle.shape.specs.Levels.{blocks-parts, blocks-deepest}
use Rattle.rules.specs.Numbers.{DIVIDED, NOEXIST}
use Rattle.rules.specs.Valid.{states_known, owners_known, tops_exist, parts_exist, deepest_whole, buddies_merged}
use Rattle.check_tree.specs.Tree.{tree_valid}

pub tops-room : (s : Shape) → allowed s ≡ true → s.tops ≤ blocks s
tops-room s h = omega (arith, blocks-parts s (limits s h).levels.0)

pub deepest-room : (s : Shape) → above s (s.levels - 1) ≤ blocks s
unfolding blocks
deepest-room s = above-up s (s.levels - 1) s.levels (omega arith)

-- whether a value is found
abbrev pub found : ℕ → List ℕ → Bool
found value cells = list_any (λ y. eqb y value) cells

none-upto :
    (cells : List ℕ) (value n : ℕ) → n ≤ length cells →
    every n (λ i. not (eqb (get_or cells i 0) value)) ≡ not (found value (take n cells))
unfolding every
none-upto cells value zero h = refl
none-upto cells value (suc n) h =
    rw (← add-one n, none-upto cells value n (omega arith), list_any_more (λ y. eqb y value) cells n 0 (omega arith))
    (apart (found value (take n cells)) (eqb (get_or cells n 0) value))
  where
    apart : (a b : Bool) → (not a && not b) ≡ not (a || b)
    apart true b = refl
    apart false b = refl

-- none of n cells from a place on is a value that is not found there
none-found :
    (cells : List ℕ) (value from n : ℕ) → from + n ≤ length cells →
    every n (λ i. not (eqb (get_or cells (from + i) 0) value)) ≡ not (found value (take n (drop from cells)))
none-found cells value from n h =
    every-same n _ _ (λ i l. ap (λ (x : ℕ). not (eqb x value)) (sym (get_or-drop from cells i 0)))
    ∙ none-upto (drop from cells) value n (simp length-drop (omega arith))

pub tops-pass :
    (s : Shape) (states : List ℕ) → s.tops ≤ length states → tops_exist s states ≡ not (found NOEXIST (take s.tops states))
unfolding tops_exist
tops-pass s states h = rw above-none (none-found states NOEXIST 0 s.tops (omega arith))

pub deepest-pass :
    (s : Shape) (states : List ℕ) (from : ℕ) → allowed s ≡ true → length states ≡ blocks s → from ≡ above s (s.levels - 1) →
    deepest_whole s states ≡ not (found DIVIDED (take (length states - from) (drop from states)))
unfolding deepest_whole
deepest-pass s states from h e q =
    rw (← blocks-deepest s (limits s h).levels.0, ← q, ← e)
    (none-found states DIVIDED from (length states - from) (omega (arith, e, q, deepest-room s)))

module _ (s : Shape) (states owners : List ℕ) where
  pub no-owners : (states_known s states && owners_known s states owners) ≡ false → false ≡ tree_valid s states owners
  no-owners e = rw e

  pub no-tops : tops_exist s states ≡ false → false ≡ tree_valid s states owners
  no-tops e = simp (e, and-false)

  pub no-deepest : deepest_whole s states ≡ false → false ≡ tree_valid s states owners
  no-deepest e = simp (e, and-false)

  pub all :
      (r : Bool) → (states_known s states && owners_known s states owners) ≡ true → tops_exist s states ≡ true →
      deepest_whole s states ≡ true → r ≡ (parts_exist s states && buddies_merged s states) → r ≡ tree_valid s states owners
  all r k t d e = rw (k, t, d, and-true) e
