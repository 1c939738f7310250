-- The lines on states where a table of states changes: each line looks at states through a few tests, and stays where those do.
-- Assumes nothing.
use Rattle.std.specs.Prelude.{◌≡◌, Bool, true, ◌&&◌, List, ℕ, ◌+◌, ◌*◌, ◌-◌, get_or, eqb}
use Rattle.std.proofs.Common.{◌∙◌}
use Rattle.std.proofs.Math.Path.{ap, ap₂}
use Rattle.std.proofs.Math.Bool.{not, beq}
use Rattle.std.proofs.Math.Dec.{leb}
use Rattle.std.proofs.lemmas.Bool.{not-true}
use Rattle.laws.specs.Tests.{every-at, every_of, every-same}
use Rattle.shape.specs.declared.Shape.{Shape}
use Rattle.shape.specs.Limits.{parts}
use Rattle.shape.specs.Blocks.{count, place, blocks}
use Rattle.rules.specs.Numbers.{ALLOCATED, FREE, DIVIDED, NOEXIST}
use Rattle.rules.specs.Valid.{states_known, owners_known, tops_exist, parts_exist, deepest_whole, buddies_merged}
use Rattle.laws.specs.Changes.{every-less}

-- a test tells nothing of the two tables apart
abbrev pub Alike : (ℕ → Bool) → List ℕ → List ℕ → Type 0
Alike τ before after = (i : ℕ) → τ (get_or after i 0) ≡ τ (get_or before i 0)

module _ (s : Shape) (before after : List ℕ) where
  pub known_alike : Alike (λ x. leb x 5) before after → states_known s before ≡ true → states_known s after ≡ true
  unfolding states_known
  known_alike a e = every-same (blocks s) _ _ (λ k h. a k) ∙ e

  pub tops-alike : Alike (λ x. eqb x NOEXIST) before after → tops_exist s before ≡ true → tops_exist s after ≡ true
  unfolding tops_exist
  tops-alike a e = every-same s.tops _ _ (λ b h. ap not (a (place s 0 b))) ∙ e

  pub parts-alike :
      Alike (λ x. eqb x NOEXIST) before after → Alike (λ x. eqb x DIVIDED) before after → parts_exist s before ≡ true →
      parts_exist s after ≡ true
  unfolding parts_exist
  parts-alike a d e =
      every-same (s.levels - 1) _ _ (λ l h.
      every-same (count s l) _ _ (λ b k.
      every-same (parts s) _ _ (λ j m.
      ap₂ (λ x y. beq (not x) y) (a (place s (l + 1) (parts s * b + j))) (d (place s l b)))))
      ∙ e

  pub deepest-alike : Alike (λ x. eqb x DIVIDED) before after → deepest_whole s before ≡ true → deepest_whole s after ≡ true
  unfolding deepest_whole
  deepest-alike d e = every-same (count s (s.levels - 1)) _ _ (λ b h. ap not (d (place s (s.levels - 1) b))) ∙ e

  -- buddies of which some were not FREE stay so where none becomes FREE
  pub merged-less :
      ((i : ℕ) → eqb (get_or after i 0) FREE ≡ true → eqb (get_or before i 0) FREE ≡ true) → buddies_merged s before ≡ true →
      buddies_merged s after ≡ true
  unfolding buddies_merged
  merged-less a e =
      every_of (s.levels - 1) _ (λ l h.
      every_of (count s l) _ (λ b k.
      ap not
      (every-less (parts s) _ _ (λ j m. a (place s (l + 1) (parts s * b + j)))
      (not-true _ (every-at (count s l) _ (every-at (s.levels - 1) _ e l h) b k)))))

  pub owners-alike :
      (owners : List ℕ) → Alike (λ x. eqb x ALLOCATED) before after → owners_known s before owners ≡ true →
      owners_known s after owners ≡ true
  unfolding owners_known
  owners-alike owners a e =
      every-same (blocks s) _ _
      (λ k h. ap (λ x. beq x (not (eqb (get_or owners k 0) 0)) && leb (get_or owners k 0) s.threads) (a k))
      ∙ e
