-- Sums over the numbers below a bound, and what they say of a list that names each number as often as a test passes.
-- Assumes nothing.
use Rattle.std.specs.Prelude.{◌≡◌, refl, Bool, true, false, ◌⊎◌, List, [], ◌∷◌, ℕ, zero, suc, ◌+◌, ◌≤◌, ◌<◌, length, get_or, eqb, ltb}
use Rattle.std.proofs.Common.{sym, ◌∙◌, ap, ap₂, subst, inl, inr, suc-le-suc, lt-suc_self, lt_trans, eq-or-lt_of_le, le_of_suc-le-suc, not-suc-le-zero, arith, eq-eqb, ne_eqb, ltb-true}
use Rattle.std.proofs.Math.Decide.{dec_lt}
use Rattle.laws.specs.Tests.{bit, every, every-at, every_of, tally, tally-most, bit-most}
use Rattle.laws.specs.Lists.{times}

-- the sum of f over the numbers below n
unfoldable pub sum : ℕ → (ℕ → ℕ) → ℕ
sum zero f = 0
sum (suc n) f = sum n f + f n

pub sum_same : (n : ℕ) (f g : ℕ → ℕ) → ((k : ℕ) → k < n → f k ≡ g k) → sum n f ≡ sum n g
unfolding sum
sum_same zero f g h = refl
sum_same (suc n) f g h = ap₂ ◌+◌ (sum_same n f g (λ k l. h k (lt_trans l (lt-suc_self n)))) (h n (lt-suc_self n))

pub sum-add : (n : ℕ) (f g : ℕ → ℕ) → sum n (λ k. f k + g k) ≡ sum n f + sum n g
unfolding sum
sum-add zero f g = refl
sum-add (suc n) f g = omega (arith, sum-add n f g)

pub sum-zero : (n : ℕ) → sum n (λ k. 0) ≡ 0
unfolding sum
sum-zero zero = refl
sum-zero (suc n) = omega (arith, sum-zero n)

-- a number below n is met once among the numbers below n, and one that is not is not met
sum_past : (n y : ℕ) → n ≤ y → sum n (λ k. bit (eqb k y)) ≡ 0
unfolding sum
sum_past zero y h = refl
sum_past (suc n) y h =
    ap₂ ◌+◌ (sum_past n y (omega arith)) (ap bit (ne_eqb n y (omega arith)))

pub sum-once : (n y : ℕ) → y < n → sum n (λ k. bit (eqb k y)) ≡ 1
unfolding sum
sum-once zero y h = absurd (not-suc-le-zero h)
sum-once (suc n) y h = go (sum-once n y) (eq-or-lt_of_le (le_of_suc-le-suc h))
  where
    go :
        (y < n → sum n (λ k. bit (eqb k y)) ≡ 1) → (y ≡ n) ⊎ (y < n) →
        sum n (λ k. bit (eqb k y)) + bit (eqb n y) ≡ 1
    go below (inl e) = ap₂ ◌+◌ (sum_past n y (omega arith)) (ap bit (eq-eqb n y (sym e)))
    go below (inr l) = ap₂ ◌+◌ (below l) (ap bit (ne_eqb n y (omega arith)))

every-tail :
    (n x : ℕ) (xs : List ℕ) → every (suc (length xs)) (λ i. ltb (get_or (x ∷ xs) i 0) n) ≡ true →
    every (length xs) (λ i. ltb (get_or xs i 0) n) ≡ true
every-tail n x xs h = every_of (length xs) _ (λ k l. every-at (suc (length xs)) _ h (suc k) (suc-le-suc l))

pub tally-sum : (n : ℕ) (f : ℕ → Bool) → tally n f ≡ sum n (λ k. bit (f k))
unfolding tally sum
tally-sum zero f = refl
tally-sum (suc n) f = omega (arith, tally-sum n f)

-- how often all numbers below n stand in a list whose members are all below n: as often as it has members
pub times-all : (n : ℕ) (xs : List ℕ) → every (length xs) (λ i. ltb (get_or xs i 0) n) ≡ true → sum n (λ b. times b xs) ≡ length xs
unfolding times
times-all n [] h = sum-zero n
times-all n (x ∷ xs) h =
    sum-add n (λ b. bit (eqb b x)) (λ b. times b xs)
    ∙ ap₂ ◌+◌ (sum-once n x (ltb-true x n (every-at (suc (length xs)) _ h 0 (omega arith)))) (times-all n xs (every-tail n x xs h))
    ∙ omega arith

-- a list that names each number below n as often as a test passes has as many members as the test passes
pub members-counted :
    (n : ℕ) (f : ℕ → Bool) (xs : List ℕ) → every (length xs) (λ i. ltb (get_or xs i 0) n) ≡ true →
    ((b : ℕ) → b < n → times b xs ≡ bit (f b)) → length xs ≡ tally n f
members-counted n f xs h k =
    sym (times-all n xs h) ∙ sum_same n (λ b. times b xs) (λ b. bit (f b)) k ∙ sym (tally-sum n f)

-- where the test fails at m numbers from a on, it passes at m fewer at the most
pub tally-room :
    (n a m : ℕ) (f : ℕ → Bool) → a + m ≤ n → ((j : ℕ) → j < m → f (a + j) ≡ false) → tally n f + m ≤ n
unfolding tally
tally-room zero a m f h k = omega arith
tally-room (suc n) a m f h k = go (tally-room n a) (dec_lt n (a + m))
  where
    go :
        ((m : ℕ) (f : ℕ → Bool) → a + m ≤ n → ((j : ℕ) → j < m → f (a + j) ≡ false) → tally n f + m ≤ n) →
        Dec (n < a + m) → tally n f + bit (f n) + m ≤ suc n
    go below (no l) = omega (arith, below m f (omega arith) k, bit-most (f n))
    go below (yes l) = last m h k l
      where
        last :
            (m : ℕ) → a + m ≤ suc n → ((j : ℕ) → j < m → f (a + j) ≡ false) → n < a + m →
            tally n f + bit (f n) + m ≤ suc n
        last zero h k l = omega (arith, tally-most n f, bit-most (f n))
        last (suc m) h k l =
            let e : a + m ≡ n = omega arith in
            omega (
              arith,
              below m f (omega arith) (λ j q. k j (lt_trans q (lt-suc_self m))),
              ap bit (subst (λ (x : ℕ). f x ≡ false) e (k m (lt-suc_self m))),
            )

-- where the test passes somewhere, it passes at least once
pub tally-some : (n k : ℕ) (f : ℕ → Bool) → k < n → f k ≡ true → 1 ≤ tally n f
unfolding tally
tally-some zero k f h e = absurd (not-suc-le-zero h)
tally-some (suc n) k f h e = go (tally-some n k f) (eq-or-lt_of_le (le_of_suc-le-suc h))
  where
    go : (k < n → f k ≡ true → 1 ≤ tally n f) → (k ≡ n) ⊎ (k < n) → 1 ≤ tally n f + bit (f n)
    go below (inl q) = omega (arith, ap bit (subst (λ (x : ℕ). f x ≡ true) q e))
    go below (inr l) = omega (arith, below l e)
