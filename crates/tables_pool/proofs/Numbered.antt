-- A test of each member of a list and its place, as a test of the places.
-- Assumes nothing.
use Rattle.std.proofs.Common.{◌≡◌, ℕ, zero, suc, ◌+◌, Bool, ◌&&◌, List, [], ◌∷◌, length, get_or, refl, sym, ap, ap₂, ◌∙◌, add-zero, arith}
use Rattle.std.proofs.Math.Bool.{and_assoc, and-true, true-and}
use Rattle.std.specs.List.{list_all, enumerate_from}
use Rattle.laws.specs.Tests.{every, every-same}

-- the first number is tested before the others
every-first : (n : ℕ) (f : ℕ → Bool) → every (suc n) f ≡ (f 0 && every n (λ k. f (suc k)))
unfolding every
every-first zero f = true-and (f 0) ∙ sym (and-true (f 0))
every-first (suc n) f =
    ap (λ b. b && f (suc n)) (every-first n f) ∙ and_assoc (f 0) (every n (λ k. f (suc k))) (f (suc n))

pub every-numbered :
    (test : ℕ × ℕ → Bool) (n : ℕ) (xs : List ℕ) →
    list_all test (enumerate_from n xs) ≡ every (length xs) (λ k. test (n + k, get_or xs k 0))
unfolding every
every-numbered test n [] = refl
every-numbered test n (x ∷ xs) =
    ap₂ ◌&&◌
    (ap (λ k. test (k, x)) (sym (add-zero n)))
    (every-numbered test (n + 1) xs
    ∙ every-same (length xs) _ _ (λ k h. ap (λ m. test (m, get_or xs k 0)) (omega arith)))
    ∙ sym (every-first (length xs) (λ k. test (n + k, get_or (x ∷ xs) k 0)))
