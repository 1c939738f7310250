-- Tests over all numbers below a bound, and how many pass.
-- Assumes nothing.
use Rattle.std.specs.Prelude.{◌≡◌, refl, Bool, true, false, ◌&&◌, ◌||◌, ◌⊎◌, ℕ, zero, suc, ◌+◌, ◌≤◌, ◌<◌}
use Rattle.std.proofs.Common.{sym, ◌∙◌, ap, ap₂, inl, inr, le_of_suc-le-suc, eq-or-lt_of_le, not-suc-le-zero, lt-suc_self, lt_trans, add-one, arith}
use Rattle.std.proofs.lemmas.Bool.{false≢true}

-- 1 where a test passes, 0 where it fails
abbrev pub bit : Bool → ℕ
bit true = 1
bit false = 0

-- the test passes at every number below n
unfoldable pub every : ℕ → (ℕ → Bool) → Bool
every zero f = true
every (suc n) f = every n f && f n

-- at how many numbers below n the test passes
unfoldable pub tally : ℕ → (ℕ → Bool) → ℕ
tally zero f = 0
tally (suc n) f = tally n f + bit (f n)

-- a conjunction is true where both sides are
pub both : (a b : Bool) → (a && b) ≡ true → (a ≡ true) × (b ≡ true)
both true true e = (refl, refl)
both true false e = (refl, e)
both false b e = (e, absurd (false≢true e))

pub both_of : (a b : Bool) → a ≡ true → b ≡ true → (a && b) ≡ true
both_of a b e f = simp (e, f)

-- a disjunction is true where a side is
pub either : (a b : Bool) → (a || b) ≡ true → (a ≡ true) ⊎ (b ≡ true)
either true b e = inl refl
either false b e = inr e

pub bit-most : (b : Bool) → bit b ≤ 1
bit-most true = omega arith
bit-most false = omega arith

-- one number more, as code counts
pub every_more : (n : ℕ) (f : ℕ → Bool) → every (n + 1) f ≡ (every n f && f n)
unfolding every
every_more n f = rw add-one

pub every-none : (f : ℕ → Bool) → every 0 f ≡ true
unfolding every
every-none f = refl

-- what is tested of all holds of each
pub every-at : (n : ℕ) (f : ℕ → Bool) → every n f ≡ true → (k : ℕ) → k < n → f k ≡ true
unfolding every
every-at zero f e k h = absurd (not-suc-le-zero h)
every-at (suc n) f e k h =
    go (every-at n f (both (every n f) (f n) e).0 k) (eq-or-lt_of_le (le_of_suc-le-suc h))
  where
    go : (k < n → f k ≡ true) → (k ≡ n) ⊎ (k < n) → f k ≡ true
    go below (inl q) = rw q (both (every n f) (f n) e).1
    go below (inr l) = below l

-- and what holds of each is tested of all
pub every_of : (n : ℕ) (f : ℕ → Bool) → ((k : ℕ) → k < n → f k ≡ true) → every n f ≡ true
unfolding every
every_of zero f h = refl
every_of (suc n) f h =
    both_of (every n f) (f n) (every_of n f (λ k l. h k (lt_trans l (lt-suc_self n)))) (h n (lt-suc_self n))

-- where it fails, it fails at some number
pub every-not : (n : ℕ) (f : ℕ → Bool) (k : ℕ) → k < n → f k ≡ false → every n f ≡ false
every-not n f k h e = go (every n f) refl
  where
    go : (b : Bool) → every n f ≡ b → b ≡ false
    go false q = refl
    go true q = sym (every-at n f q k h) ∙ e

-- tests that agree below n pass together
pub every-same : (n : ℕ) (f g : ℕ → Bool) → ((k : ℕ) → k < n → f k ≡ g k) → every n f ≡ every n g
unfolding every
every-same zero f g h = refl
every-same (suc n) f g h =
    ap₂ ◌&&◌ (every-same n f g (λ k l. h k (lt_trans l (lt-suc_self n)))) (h n (lt-suc_self n))

-- two tests at each number are the two tests of all
pub every-both : (n : ℕ) (f g : ℕ → Bool) → every n (λ k. f k && g k) ≡ (every n f && every n g)
unfolding every
every-both zero f g = refl
every-both (suc n) f g = rw (every-both n f g) (mix (every n f) (every n g) (f n) (g n))
  where
    mix : (a b c d : Bool) → ((a && b) && (c && d)) ≡ ((a && c) && (b && d))
    mix true true true d = refl
    mix true true false d = refl
    mix true false true d = refl
    mix true false false d = refl
    mix false b c d = refl

pub tally-more : (n : ℕ) (f : ℕ → Bool) → tally (n + 1) f ≡ tally n f + bit (f n)
unfolding tally
tally-more n f = rw add-one

pub tally-none : (f : ℕ → Bool) → tally 0 f ≡ 0
unfolding tally
tally-none f = refl

pub tally-most : (n : ℕ) (f : ℕ → Bool) → tally n f ≤ n
unfolding tally
tally-most zero f = omega arith
tally-most (suc n) f = omega (arith, tally-most n f, bit-most (f n))

pub tally-same : (n : ℕ) (f g : ℕ → Bool) → ((k : ℕ) → k < n → f k ≡ g k) → tally n f ≡ tally n g
unfolding tally
tally-same zero f g h = refl
tally-same (suc n) f g h =
    ap₂ ◌+◌ (tally-same n f g (λ k l. h k (lt_trans l (lt-suc_self n)))) (ap bit (h n (lt-suc_self n)))

-- a test that cannot pass fails
pub fails : (b : Bool) → (b ≡ true → ⊥) → false ≡ b
fails true h = absurd (h refl)
fails false h = refl

-- all below one number are all below an equal one
pub every_upto : (m n : ℕ) (f : ℕ → Bool) → m ≡ n → every m f ≡ every n f
every_upto m n f e = rw e
