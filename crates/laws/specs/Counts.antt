-- Two rows of counts of which one is nowhere above the other: where their sums agree they are one. So lists and calls that name numbers
-- are held against a test of those numbers by two counts, and by a look at each number on one side alone.
-- Assumes nothing.
use Rattle.std.specs.Prelude.{◌≡◌, refl, Bool, true, false, not, ◌&&◌, ◌||◌, ◌⊎◌, List, ℕ, zero, suc, ◌+◌, ◌≤◌, ◌<◌, length, get_or, eqb, ltb}
use Rattle.std.proofs.Common.{sym, ◌∙◌, ap, ap₂, inl, inr, add-zero, add-suc, lt-suc_self, lt_trans, eq-or-lt_of_le, le_of_suc-le-suc, not-suc-le-zero, arith, ltb-true, lt-ltb, eqb-true, eq-eqb}
use Rattle.laws.specs.Tests.{bit, both, both_of, every, every-at, every_of, tally}
use Rattle.laws.specs.Lists.{times}
use Rattle.laws.specs.Times.{same_test}
use Rattle.laws.specs.Changes.{implied}
use Rattle.laws.specs.Sums.{sum, sum_same, sum-add, sum-zero, sum-once, tally-sum, tally-some, times-all, members-counted}

pub sum-most : (n : ℕ) (f g : ℕ → ℕ) → ((k : ℕ) → k < n → f k ≤ g k) → sum n f ≤ sum n g
unfolding sum
sum-most zero f g h = omega arith
sum-most (suc n) f g h = omega (arith, sum-most n f g (λ k l. h k (lt_trans l (lt-suc_self n))), h n (lt-suc_self n))

-- how many pass of the first m numbers and of the n behind them
pub tally-behind : (m n : ℕ) (f : ℕ → Bool) → tally (m + n) f ≡ tally m f + tally n (λ i. f (m + i))
unfolding tally
tally-behind m zero f = rw add-zero (omega arith)
tally-behind m (suc n) f = rw add-suc (omega (arith, tally-behind m n f))

-- how many pass one of two tests that never pass together
pub tally-either :
    (n : ℕ) (f g : ℕ → Bool) → ((k : ℕ) → f k ≡ true → g k ≡ false) → tally n (λ k. f k || g k) ≡ tally n f + tally n g
unfolding tally
tally-either zero f g h = refl
tally-either (suc n) f g h = omega (arith, tally-either n f g h, one (f n) (g n) (h n))
  where
    one : (a b : Bool) → (a ≡ true → b ≡ false) → bit (a || b) ≡ bit a + bit b
    one true b e = rw (e refl)
    one false b e = omega arith

-- f is nowhere above g, and their sums agree: then f is g
pub sums-meet :
    (n : ℕ) (f g : ℕ → ℕ) → ((k : ℕ) → k < n → f k ≤ g k) → sum n f ≡ sum n g → (k : ℕ) → k < n → f k ≡ g k
unfolding sum
sums-meet zero f g h e k l = absurd (not-suc-le-zero l)
sums-meet (suc n) f g h e k l = go (sums-meet n f g below) (eq-or-lt_of_le (le_of_suc-le-suc l))
  where
    below : (k : ℕ) → k < n → f k ≤ g k
    below k l = h k (lt_trans l (lt-suc_self n))

    go : (sum n f ≡ sum n g → (k : ℕ) → k < n → f k ≡ g k) → (k ≡ n) ⊎ (k < n) → f k ≡ g k
    go before (inl q) = rw q (omega (arith, h n (lt-suc_self n), sum-most n f g below))
    go before (inr m) = before (omega (arith, h n (lt-suc_self n), sum-most n f g below)) k m

-- a list of numbers below n names each that passes a test once and nothing else: it has as many members as pass, and names all that pass
pub named-once :
    (n : ℕ) (f : ℕ → Bool) (xs : List ℕ) → every (length xs) (λ i. ltb (get_or xs i 0) n) ≡ true →
    (eqb (tally n f) (length xs) && every n (λ b. not (f b) || ltb 0 (times b xs)))
    ≡ every n (λ b. eqb (times b xs) (bit (f b)))
named-once n f xs inside = same_test _ _ there back
  where
    there :
        (eqb (tally n f) (length xs) && every n (λ b. not (f b) || ltb 0 (times b xs))) ≡ true →
        every n (λ b. eqb (times b xs) (bit (f b))) ≡ true
    there e = every_of n _ (λ b l. eq-eqb _ _ (sym (sums-meet n (λ b. bit (f b)) (λ b. times b xs) fewer as_many b l)))
      where
        as_many : sum n (λ b. bit (f b)) ≡ sum n (λ b. times b xs)
        as_many = sym (tally-sum n f) ∙ eqb-true _ _ (both (eqb (tally n f) (length xs)) _ e).0 ∙ sym (times-all n xs inside)

        fewer : (b : ℕ) → b < n → bit (f b) ≤ times b xs
        fewer b l = go (f b) (every-at n _ (both (eqb (tally n f) (length xs)) _ e).1 b l)
          where
            go : (a : Bool) → (not a || ltb 0 (times b xs)) ≡ true → bit a ≤ times b xs
            go true q = ltb-true _ _ q
            go false q = omega arith

    back :
        every n (λ b. eqb (times b xs) (bit (f b))) ≡ true →
        (eqb (tally n f) (length xs) && every n (λ b. not (f b) || ltb 0 (times b xs))) ≡ true
    back e =
        both_of _ _ (eq-eqb _ _ (sym (members-counted n f xs inside counted)))
        (every_of n _ (λ b l. go b (f b) (counted b l)))
      where
        counted : (b : ℕ) → b < n → times b xs ≡ bit (f b)
        counted b l = eqb-true _ _ (every-at n _ e b l)

        go : (b : ℕ) (a : Bool) → times b xs ≡ bit a → (not a || ltb 0 (times b xs)) ≡ true
        go b true q = lt-ltb 0 (times b xs) (omega arith)
        go b false q = refl

-- how many of the first m hands that pass a test hold number k
abbrev pub holders : ℕ → (ℕ → Bool) → (ℕ → ℕ) → ℕ → ℕ
holders m test at k = tally m (λ t. test t && eqb (at t) k)

-- where hand t passes, what it holds passes too, and no other hand holds it
abbrev pub alone : ℕ → (ℕ → Bool) → (ℕ → Bool) → (ℕ → ℕ) → ℕ → Bool
alone m f test at t = not (test t) || (f (at t) && eqb (holders m test at (at t)) 1)

-- each hand that passes holds one number below n
hands-counted :
    (n m : ℕ) (test : ℕ → Bool) (at : ℕ → ℕ) → ((t : ℕ) → t < m → test t ≡ true → at t < n) →
    sum n (holders m test at) ≡ tally m test
unfolding tally
hands-counted n zero test at h = sum-zero n
hands-counted n (suc m) test at h =
    sum-add n (holders m test at) (λ k. bit (test m && eqb (at m) k))
    ∙ ap₂ ◌+◌ (hands-counted n m test at (λ t l. h t (lt_trans l (lt-suc_self m)))) (one (test m) (h m (lt-suc_self m)))
  where
    turned : (k : ℕ) → bit (eqb (at m) k) ≡ bit (eqb k (at m))
    turned k = ap bit (same_test _ _ (λ e. eq-eqb k (at m) (sym (eqb-true (at m) k e))) (λ e. eq-eqb (at m) k (sym (eqb-true k (at m) e))))

    one : (a : Bool) → (a ≡ true → at m < n) → sum n (λ k. bit (a && eqb (at m) k)) ≡ bit a
    one true i = sum_same n _ _ (λ k l. turned k) ∙ sum-once n (at m) (i refl)
    one false i = sum-zero n

-- what a test passes at least once, it passes somewhere
pub tally-found : (n : ℕ) (f : ℕ → Bool) → 1 ≤ tally n f → (k : ℕ) × (k < n) × (f k ≡ true)
unfolding tally
tally-found zero f h = absurd (omega arith)
tally-found (suc n) f h = go (f n) refl (tally-found n f)
  where
    go :
        (a : Bool) → f n ≡ a → (1 ≤ tally n f → (k : ℕ) × (k < n) × (f k ≡ true)) →
        (k : ℕ) × (k < suc n) × (f k ≡ true)
    go true e before = (n, lt-suc_self n, e)
    go false e before = let (k, l, q) = before (omega (arith, ap bit e)) in (k, lt_trans l (lt-suc_self n), q)

-- hands hold each number that passes a test once and nothing else: there are as many as pass, and each is alone with what it holds
module _ (n m : ℕ) (f test : ℕ → Bool) (at : ℕ → ℕ) (inside : (t : ℕ) → t < m → test t ≡ true → at t < n) where
  -- what is held at all is held by one hand, and passes
  held-most : every m (alone m f test at) ≡ true → (k : ℕ) → holders m test at k ≤ bit (f k)
  held-most e k = go (holders m test at k) refl
    where
      one : (t : ℕ) → t < m → (test t && eqb (at t) k) ≡ true → holders m test at k ≤ bit (f k)
      one t l q =
          let p = both (test t) (eqb (at t) k) q in
          let a = both (f (at t)) _ (implied (test t) _ (every-at m (alone m f test at) e t l) p.0) in
          let s : at t ≡ k = eqb-true (at t) k p.1 in
          omega (arith, rw s at (eqb-true (holders m test at (at t)) 1 a.1), rw s at (ap bit a.0))

      go : (h : ℕ) → holders m test at k ≡ h → h ≤ bit (f k)
      go zero q = omega arith
      go (suc h) q = let (t, l, p) = tally-found m (λ t. test t && eqb (at t) k) (omega arith) in rw (← q) (one t l p)

  -- so no more hands than numbers pass
  pub held-fewer : every m (alone m f test at) ≡ true → tally m test ≤ tally n f
  held-fewer e =
      omega (
        arith,
        hands-counted n m test at inside,
        sum-most n (holders m test at) (λ k. bit (f k)) (λ k l. held-most e k),
        tally-sum n f,
      )

  -- where each number is held as often as it passes, each hand is alone
  held-alone :
      ((k : ℕ) → k < n → holders m test at k ≡ bit (f k)) → (t : ℕ) → t < m → (a : Bool) → test t ≡ a →
      (not a || (f (at t) && eqb (holders m test at (at t)) 1)) ≡ true
  held-alone e t l false q = refl
  held-alone e t l true q = go (f (at t)) (e (at t) (inside t l q))
    where
      some : 1 ≤ holders m test at (at t)
      some = tally-some m t (λ u. test u && eqb (at u) (at t)) l (both_of _ _ q (eq-eqb (at t) (at t) refl))

      go : (a : Bool) → holders m test at (at t) ≡ bit a → (a && eqb (holders m test at (at t)) 1) ≡ true
      go true r = eq-eqb _ _ r
      go false r = absurd (omega (arith, some))

  pub held-once :
      (eqb (tally n f) (tally m test) && every m (alone m f test at))
      ≡ every n (λ k. eqb (holders m test at k) (bit (f k)))
  held-once = same_test _ _ there back
    where
      total : sum n (holders m test at) ≡ tally m test
      total = hands-counted n m test at inside

      there : (eqb (tally n f) (tally m test) && every m (alone m f test at)) ≡ true → every n (λ k. eqb (holders m test at k) (bit (f k))) ≡ true
      there e =
          let p = both (eqb (tally n f) (tally m test)) _ e in
          every_of n _ (λ k l.
          eq-eqb _ _
          (sums-meet n (holders m test at) (λ k. bit (f k)) (λ k l. held-most p.1 k)
          (total ∙ sym (eqb-true _ _ p.0) ∙ tally-sum n f) k l))

      back : every n (λ k. eqb (holders m test at k) (bit (f k))) ≡ true → (eqb (tally n f) (tally m test) && every m (alone m f test at)) ≡ true
      back e =
          both_of _ _
          (eq-eqb _ _ (tally-sum n f ∙ sym (sum_same n (holders m test at) (λ k. bit (f k)) as-often) ∙ total))
          (every_of m (alone m f test at) (λ t l. held-alone as-often t l (test t) refl))
        where
          as-often : (k : ℕ) → k < n → holders m test at k ≡ bit (f k)
          as-often k l = eqb-true _ _ (every-at n (λ k. eqb (holders m test at k) (bit (f k))) e k l)
