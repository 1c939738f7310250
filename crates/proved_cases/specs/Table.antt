-- A table of cases: each row has what the rules compute and what is expected, and one computed test shows all rows.
-- Assumes nothing.
use Rattle.std.specs.Prelude.{◌≡◌, refl, Bool, true, false, ◌&&◌, List, [], ◌∷◌, map, ℕ, eqb}
use Rattle.std.proofs.Common.{ap₂, eqb-true}
use Rattle.std.proofs.lemmas.Bool.{false≢true}
use Rattle.laws.specs.Tests.{both}

pub record Case : Type 0 where
  pub computed : List ℕ
  pub expected : List ℕ

abbrev pub row : List ℕ → List ℕ → Case
row computed expected = record { computed = computed; expected = expected }

unfoldable pub same : List ℕ → List ℕ → Bool
same [] [] = true
same [] (y ∷ ys) = false
same (x ∷ xs) [] = false
same (x ∷ xs) (y ∷ ys) = eqb x y && same xs ys

same_true : (xs ys : List ℕ) → same xs ys ≡ true → xs ≡ ys
unfolding same
same_true [] [] e = refl
same_true [] (y ∷ ys) e = absurd (false≢true e)
same_true (x ∷ xs) [] e = absurd (false≢true e)
same_true (x ∷ xs) (y ∷ ys) e = ap₂ ◌∷◌ (eqb-true x y (both (eqb x y) (same xs ys) e).0) (same_true xs ys (both (eqb x y) (same xs ys) e).1)

-- the two sides of every row are the same
unfoldable pub agree : List Case → Bool
agree [] = true
agree (c ∷ rest) = same c.computed c.expected && agree rest

-- what a table computes is what it expects, row by row
abbrev pub Holds : List Case → Type 0
Holds rows = map (λ (c : Case). c.computed) rows ≡ map (λ (c : Case). c.expected) rows

pub agree-holds : (rows : List Case) → agree rows ≡ true → Holds rows
unfolding agree
agree-holds [] e = refl
agree-holds (c ∷ rest) e = go (both (same c.computed c.expected) (agree rest) e) (agree-holds rest)
  where
    go : (same c.computed c.expected ≡ true) × (agree rest ≡ true) → (agree rest ≡ true → Holds rest) → Holds (c ∷ rest)
    go e below = ap₂ ◌∷◌ (same_true c.computed c.expected e.0) (below e.1)
