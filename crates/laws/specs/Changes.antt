-- Changes: how many pass where one test changes, how often a number stands in a list that grows or shrinks, what a store changes.
-- Assumes nothing.
use Rattle.std.specs.Prelude.{◌≡◌, refl, Bool, true, false, not, cond, ◌&&◌, ◌||◌, ◌⊎◌, ◌≢◌, List, [], ◌∷◌, ℕ, zero, suc, ◌+◌, ◌*◌, ◌/◌, ◌≤◌, ◌<◌, length, get_or, set, replicate, ltb, eqb}
use Rattle.std.proofs.Common.{sym, ◌∙◌, ap, ap₂, inl, inr, zero-add, add-zero, le_of_suc-le-suc, eq-or-lt_of_le, not-suc-le-zero, lt-suc_self, lt_trans, arith, get_or-set_same, get_or-set_other, lt-ltb, ltb-true, eq-eqb, ne_eqb}
use Rattle.std.specs.Bool.{beq}
use Rattle.std.proofs.lemmas.Bool.{false≢true}
use Rattle.std.proofs.Math.Nat.{mul-add-div, div-eq_of_lt}
use Rattle.std.proofs.Math.Decide.{dec_lt, ℕ_discrete}
use Rattle.std.proofs.lemmas.List.{length-replicate, get_or-replicate}
use Rattle.std.proofs.Math.ListN.{get_or-eq_default}
use Rattle.std.proofs.lemmas.List.Edits.{sets}
use Rattle.std.proofs.Math.Seq.{set_out}
use Rattle.laws.specs.Tests.{bit, every, every-at, every_of, tally, tally-same}
use Rattle.laws.specs.Lists.{times, keep, up_from}

-- tests that agree at all numbers but one pass as often, but for that one
pub tally-one :
    (n t : ℕ) (f g : ℕ → Bool) → t < n → ((k : ℕ) → k < n → k ≢ t → f k ≡ g k) →
    tally n g + bit (f t) ≡ tally n f + bit (g t)
unfolding tally
tally-one zero t f g h e = absurd (not-suc-le-zero h)
tally-one (suc n) t f g h e =
    go (tally-one n t f g) (eq-or-lt_of_le (le_of_suc-le-suc h)) (λ k l d. e k (lt_trans l (lt-suc_self n)) d)
    (e n (lt-suc_self n))
  where
    go :
        (t < n → ((k : ℕ) → k < n → k ≢ t → f k ≡ g k) → tally n g + bit (f t) ≡ tally n f + bit (g t)) →
        (t ≡ n) ⊎ (t < n) → ((k : ℕ) → k < n → k ≢ t → f k ≡ g k) → (n ≢ t → f n ≡ g n) →
        tally n g + bit (g n) + bit (f t) ≡ tally n f + bit (f n) + bit (g t)
    go below (inl q) d m = rw q (omega (arith, tally-same n f g (λ k l. d k l (omega arith))))
    go below (inr l) d m = omega (arith, below l d, ap bit (m (omega arith)))

-- a test that fails at every number passes nowhere
pub tally-fails : (n : ℕ) (f : ℕ → Bool) → ((k : ℕ) → k < n → f k ≡ false) → tally n f ≡ 0
unfolding tally
tally-fails zero f h = refl
tally-fails (suc n) f h = ap₂ ◌+◌ (tally-fails n f (λ k l. h k (lt_trans l (lt-suc_self n)))) (ap bit (h n (lt-suc_self n)))

-- where a test that fails somewhere is passed whenever another is, that one fails too
pub every-less :
    (n : ℕ) (f g : ℕ → Bool) → ((k : ℕ) → k < n → g k ≡ true → f k ≡ true) → every n f ≡ false → every n g ≡ false
every-less n f g h e = go (every n g) refl
  where
    go : (b : Bool) → every n g ≡ b → b ≡ false
    go false q = refl
    go true q = sym (every_of n f (λ k l. h k l (every-at n g q k l))) ∙ e

-- tests that are one agree
pub beq-of : (x y : Bool) → x ≡ y → beq x y ≡ true
beq-of true y e = rw (← e)
beq-of false y e = rw (← e)

-- a disjunction whose first side is the negation of what holds
pub implied : (x y : Bool) → (not x || y) ≡ true → x ≡ true → y ≡ true
implied true y e h = e
implied false y e h = absurd (false≢true h)

-- zeros alone
pub get_or-zeros : (n k : ℕ) → ◌≡◌ {A = ℕ} (get_or (replicate n 0) k 0) 0
get_or-zeros n k = go (dec_lt k n)
  where
    go : Dec (k < n) → ◌≡◌ {A = ℕ} (get_or (replicate n 0) k 0) 0
    go (yes h) = get_or-replicate n k 0 0 h
    go (no h) = get_or-eq_default (replicate n 0) 0 {n = k} (omega (arith, length-replicate {A = ℕ} n 0))

pub times-cons : (x y : ℕ) (ys : List ℕ) → times x (y ∷ ys) ≡ bit (eqb x y) + times x ys
unfolding times
times-cons x y ys = refl

-- what stands at a place stands in the list
pub times-here : (xs : List ℕ) (i : ℕ) → i < length xs → 1 ≤ times (get_or xs i 0) xs
unfolding times
times-here [] i h = absurd (not-suc-le-zero h)
times-here (x ∷ xs) zero h = omega (arith, ap bit (eq-eqb x x refl))
times-here (x ∷ xs) (suc i) h = omega (arith, times-here xs i (le_of_suc-le-suc h))

-- a list whose members are all below n names no other number
pub none-behind :
    (n : ℕ) (xs : List ℕ) → every (length xs) (λ i. ltb (get_or xs i 0) n) ≡ true → (x : ℕ) → n ≤ x → times x xs ≡ 0
unfolding times
none-behind n xs e = below xs (λ i l. ltb-true _ _ (every-at (length xs) _ e i l))
  where
    below : (ys : List ℕ) → ((i : ℕ) → i < length ys → get_or ys i 0 < n) → (x : ℕ) → n ≤ x → times x ys ≡ 0
    below [] h x l = refl
    below (y ∷ ys) h x l =
        ap₂ ◌+◌ (ap bit (ne_eqb x y (omega (arith, h 0 (omega arith))))) (below ys (λ i m. h (suc i) (omega arith)) x l)

-- and one that names no other has members below n alone
pub all-below :
    (n : ℕ) (xs : List ℕ) → ((x : ℕ) → n ≤ x → times x xs ≡ 0) → every (length xs) (λ i. ltb (get_or xs i 0) n) ≡ true
all-below n xs h = every_of (length xs) _ (λ i l. lt-ltb _ _ (short i l (dec_lt (get_or xs i 0) n)))
  where
    short : (i : ℕ) → i < length xs → Dec (get_or xs i 0 < n) → get_or xs i 0 < n
    short i l (yes d) = d
    short i l (no d) = absurd (omega (arith, times-here xs i l, h (get_or xs i 0) (omega arith)))

-- the numbers from a upward name no number outside them, and each of them once
pub times-outside : (x a n : ℕ) → (x < a) ⊎ (a + n ≤ x) → times x (up_from a n) ≡ 0
unfolding times up_from
times-outside x a zero h = refl
times-outside x a (suc n) (inl h) =
    ap₂ ◌+◌ (ap bit (ne_eqb x a (omega arith))) (times-outside x (suc a) n (inl (omega arith)))
times-outside x a (suc n) (inr h) =
    ap₂ ◌+◌ (ap bit (ne_eqb x a (omega arith))) (times-outside x (suc a) n (inr (omega arith)))

pub times-among : (x a n : ℕ) → a ≤ x → x < a + n → times x (up_from a n) ≡ 1
unfolding times up_from
times-among x a zero h k = absurd (omega arith)
times-among x a (suc n) h k = go (times-among x (suc a) n) (ℕ_discrete x a)
  where
    go :
        (suc a ≤ x → x < suc a + n → times x (up_from (suc a) n) ≡ 1) → Dec (x ≡ a) →
        bit (eqb x a) + times x (up_from (suc a) n) ≡ 1
    go below (yes q) = ap₂ ◌+◌ (ap bit (eq-eqb x a q)) (times-outside x (suc a) n (inl (omega arith)))
    go below (no q) = ap₂ ◌+◌ (ap bit (ne_eqb x a q)) (below (omega arith) (omega arith))

pub cond-zero : (b : Bool) → ◌≡◌ {A = ℕ} (cond b 0 0) 0
cond-zero true = refl
cond-zero false = refl

-- what is kept stands as often as it stood, and what isn't nowhere
pub times-keep : (f : ℕ → Bool) (x : ℕ) (xs : List ℕ) → times x (keep f xs) ≡ cond (f x) (times x xs) 0
unfolding times keep
times-keep f x [] = sym (cond-zero (f x))
times-keep f x (y ∷ ys) = go (f x) (f y) refl refl (times-keep f x ys) (ℕ_discrete x y)
  where
    go :
        (a b : Bool) → f x ≡ a → f y ≡ b → times x (keep f ys) ≡ cond (f x) (times x ys) 0 → Dec (x ≡ y) →
        times x (cond b (y ∷ keep f ys) (keep f ys)) ≡ cond a (bit (eqb x y) + times x ys) 0
    go true true p q e d = ap (λ (n : ℕ). bit (eqb x y) + n) (rw p at e)
    go false false p q e d = rw p at e
    go true false p q e (yes d) = absurd (false≢true (sym q ∙ ap f (sym d) ∙ p))
    go true false p q e (no d) = rw (ne_eqb x y d, zero-add) (rw p at e)
    go false true p q e (yes d) = absurd (false≢true (sym p ∙ ap f d ∙ q))
    go false true p q e (no d) = ap₂ ◌+◌ (ap bit (ne_eqb x y d)) (rw p at e)

pub keep-every : (xs : List ℕ) → keep (λ _. true) xs ≡ xs
unfolding keep
keep-every [] = refl
keep-every (x ∷ xs) = ap (λ (ys : List ℕ). x ∷ ys) (keep-every xs)

pub keep-nothing : (xs : List ℕ) → keep (λ _. false) xs ≡ []
unfolding keep
keep-nothing [] = refl
keep-nothing (x ∷ xs) = keep-nothing xs

-- part j of block b is a part of block b
pub part_of : (p b j : ℕ) → j < p → (p * b + j) / p ≡ b
part_of p b j h = mul-add-div (omega arith) b j ∙ ap (λ (n : ℕ). b + n) (div-eq_of_lt h) ∙ add-zero b

-- a store that a test doesn't tell from what stood there
pub set-test :
    (τ : ℕ → Bool) (xs : List ℕ) (k v : ℕ) → τ v ≡ τ (get_or xs k 0) → (i : ℕ) → τ (get_or (set xs k v) i 0) ≡ τ (get_or xs i 0)
set-test τ xs k v e i = go (ℕ_discrete i k) (dec_lt k (length xs))
  where
    go : Dec (i ≡ k) → Dec (k < length xs) → τ (get_or (set xs k v) i 0) ≡ τ (get_or xs i 0)
    go (yes q) (yes h) = rw (q, get_or-set_same xs k v 0 h) e
    go (yes q) (no h) = rw (set_out xs k v (omega arith))
    go (no q) h = rw (get_or-set_other xs k i v 0 q)

-- nor a run of them
pub sets-test :
    (τ : ℕ → Bool) (xs vs : List ℕ) (k : ℕ) → ((j : ℕ) → j < length vs → τ (get_or vs j 0) ≡ τ (get_or xs (k + j) 0)) →
    (i : ℕ) → τ (get_or (sets xs k vs) i 0) ≡ τ (get_or xs i 0)
sets-test τ xs [] k e i = refl
sets-test τ xs (v ∷ vs) k e i =
    sets-test τ (set xs k v) vs (suc k) behind i ∙ set-test τ xs k v (rw add-zero at (e 0 (omega arith))) i
  where
    behind : (j : ℕ) → j < length vs → τ (get_or vs j 0) ≡ τ (get_or (set xs k v) (suc k + j) 0)
    behind j l =
        let q : suc k + j ≡ k + suc j = omega arith in
        rw (q, get_or-set_other xs k (k + suc j) v 0 (omega arith)) (e (suc j) (omega arith))

-- a store changes a test where it stands and nowhere else
pub set-count :
    (τ : ℕ → Bool) (xs : List ℕ) (k v x : ℕ) → k < length xs → get_or xs k 0 ≡ x → (i : ℕ) →
    bit (τ (get_or (set xs k v) i 0)) + bit (τ x && eqb i k) ≡ bit (τ (get_or xs i 0)) + bit (τ v && eqb i k)
set-count τ xs k v x h e i = go (ℕ_discrete i k)
  where
    same : (a b : Bool) → bit a + bit (b && true) ≡ bit b + bit (a && true)
    same true true = refl
    same true false = refl
    same false true = refl
    same false false = refl

    none : (a b : Bool) → bit (a && false) ≡ bit (b && false)
    none true true = refl
    none true false = refl
    none false true = refl
    none false false = refl

    go : Dec (i ≡ k) → bit (τ (get_or (set xs k v) i 0)) + bit (τ x && eqb i k) ≡ bit (τ (get_or xs i 0)) + bit (τ v && eqb i k)
    go (yes q) = rw (q, get_or-set_same xs k v 0 h, e, eq-eqb k k refl) (same (τ v) (τ x))
    go (no q) = rw (get_or-set_other xs k i v 0 q, ne_eqb i k q) (ap (λ (n : ℕ). bit (τ (get_or xs i 0)) + n) (none (τ x) (τ v)))
