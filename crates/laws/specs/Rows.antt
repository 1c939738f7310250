-- Rows of a table: what stands in a part of a list after a run of stores; numbers upward.
-- Assumes nothing.
use Rattle.std.specs.Prelude.{◌≡◌, refl, List, [], ◌∷◌, ◌++◌, ℕ, zero, suc, ◌+◌, ◌-◌, ◌≤◌, ◌<◌, length, get_or, set, take, drop, replicate}
use Rattle.std.proofs.Common.{sym, ◌∙◌, ap, append_assoc, add-zero, suc-add, not-suc-le-zero, add-one, arith, length-append, length-take, length-drop, take-append-drop, length-take-le, take_at, drop_at, take-add, take-suc, drop-cons, get_or-take, get_or-drop, get_or-append-add, ext_get_or, set-set}
use Rattle.std.proofs.lemmas.List.Edits.{sets, sets-eq}
use Rattle.std.proofs.Math.Seq.{append_snoc, take-nil}
use Rattle.std.proofs.lemmas.List.{set_at, set_comm}
use Rattle.laws.specs.Lists.{pad, up_from}
use Rattle.laws.specs.Keep.{zeros-behind}

-- the n places from i on
unfoldable pub row : ℕ → ℕ → List ℕ → List ℕ
row i n xs = take n (drop i xs)

pub length-row : (i n : ℕ) (xs : List ℕ) → i + n ≤ length xs → length (row i n xs) ≡ n
unfolding row
length-row i n xs h = length-take-le n (drop i xs) (simp length-drop (omega arith))

pub get_or-row : (i n : ℕ) (xs : List ℕ) (k : ℕ) → k < n → get_or (row i n xs) k 0 ≡ get_or xs (i + k) 0
unfolding row
get_or-row i n xs k h = get_or-take n (drop i xs) k 0 h ∙ get_or-drop i xs k 0

-- a row stored where it stood
pub sets-row : (i n : ℕ) (xs : List ℕ) → i + n ≤ length xs → sets xs i (row i n xs) ≡ xs
unfolding row
sets-row i n xs h =
    sets-eq (row i n xs) xs i (rw (length-row i n xs h) h) ∙ rw (length-row i n xs h) joined
  where
    joined : take i xs ++ row i n xs ++ drop (i + n) xs ≡ xs
    joined = rw (← take-add i n xs) (take-append-drop (i + n) xs)

-- the row that was stored
pub row-sets : (i : ℕ) (xs vs : List ℕ) → i + length vs ≤ length xs → row i (length vs) (sets xs i vs) ≡ vs
unfolding row
row-sets i xs vs h =
    rw (sets-eq vs xs i h, append_assoc, drop_at (take i xs) _ i (length-take-le i xs (omega arith)))
    (take_at vs _ (length vs) refl)

-- a store before a row
pub set_before : (i j x : ℕ) (xs vs : List ℕ) → j < i → set (sets xs i vs) j x ≡ sets (set xs j x) i vs
set_before i j x xs [] h = refl
set_before i j x xs (v ∷ vs) h =
    set_before (suc i) j x (set xs i v) vs (omega arith)
    ∙ rw (set_comm xs i j v x (omega arith))

-- a store within a row
pub set-within : (i k x : ℕ) (xs vs : List ℕ) → k < length vs → set (sets xs i vs) (i + k) x ≡ sets xs i (set vs k x)
set-within i k x xs [] h = absurd (not-suc-le-zero h)
set-within i zero x xs (v ∷ vs) h = rw (add-zero, set_before (suc i) i x (set xs i v) vs (omega arith), set-set)
set-within i (suc k) x xs (v ∷ vs) h =
    let e : i + suc k ≡ suc i + k = omega arith in
    rw e (set-within (suc i) k x (set xs i v) vs (omega arith))

-- one row over another
pub sets-sets : (i : ℕ) (xs vs ws : List ℕ) → length vs ≡ length ws → sets (sets xs i vs) i ws ≡ sets xs i ws
sets-sets i xs [] [] e = refl
sets-sets i xs [] (w ∷ ws) e = refl
sets-sets i xs (v ∷ vs) [] e = absurd (omega arith)
sets-sets i xs (v ∷ vs) (w ∷ ws) e =
    rw (set_before (suc i) i w (set xs i v) vs (omega arith), set-set) (sets-sets (suc i) (set xs i w) vs ws (omega arith))

-- one more of the same
pub sets_more :
    (i n x : ℕ) (xs : List ℕ) → sets xs i (replicate (n + 1) x) ≡ set (sets xs i (replicate n x)) (i + n) x
sets_more i zero x xs = rw add-zero
sets_more i (suc n) x xs =
    let e : i + suc n ≡ suc i + n = omega arith in
    rw (suc-add, e) (sets_more (suc i) n x (set xs i x))

-- the next number upward
pub up_from-more : (a n : ℕ) → up_from a (n + 1) ≡ up_from a n ++ ((a + n) ∷ [])
unfolding up_from
up_from-more a n = rw add-one (go a n)
  where
    go : (a n : ℕ) → up_from a (suc n) ≡ up_from a n ++ ((a + n) ∷ [])
    go a zero = rw add-zero
    go a (suc n) =
        let e : a + suc n ≡ suc a + n = omega arith in
        rw e (ap (λ (r : List ℕ). a ∷ r) (go (suc a) n))

pub length-up_from : (a n : ℕ) → length (up_from a n) ≡ n
unfolding up_from
length-up_from a zero = refl
length-up_from a (suc n) = ap suc (length-up_from (suc a) n)

-- the zeros behind a list are what stands behind any list's end
pub get_or-pad : (n : ℕ) (xs : List ℕ) (i : ℕ) → get_or (pad n xs) i 0 ≡ get_or xs i 0
unfolding pad
get_or-pad n xs i = behind xs i
  where
    zeros : (k i : ℕ) → ◌≡◌ {A = ℕ} (get_or (replicate k 0) i 0) 0
    zeros zero i = refl
    zeros (suc k) zero = refl
    zeros (suc k) (suc i) = zeros k i

    behind : (ys : List ℕ) (i : ℕ) → get_or (ys ++ replicate (n - length xs) 0) i 0 ≡ get_or ys i 0
    behind [] i = zeros (n - length xs) i
    behind (y ∷ ys) zero = refl
    behind (y ∷ ys) (suc i) = behind ys i

-- rows that agree at every place
pub row_same :
    (i n : ℕ) (xs ys : List ℕ) → length xs ≡ length ys → ((k : ℕ) → k < n → get_or xs (i + k) 0 ≡ get_or ys (i + k) 0) →
    row i n xs ≡ row i n ys
unfolding row
row_same i n xs ys e h =
    ext_get_or 0 _ _ (simp (length-take, length-drop) (rw e))
    (λ k l. get_or-row i n xs k (short k l) ∙ h k (short k l) ∙ sym (get_or-row i n ys k (short k l)))
  where
    short : (k : ℕ) → k < length (take n (drop i xs)) → k < n
    short k l = omega (arith, length-take n (drop i xs))

-- a list whose first i places have taken what stood one place behind them
unfoldable pub shifted : ℕ → List ℕ → List ℕ
shifted i xs = take i (drop 1 xs) ++ drop i xs

pub shifted_none : (xs : List ℕ) → shifted 0 xs ≡ xs
unfolding shifted
shifted_none xs = refl

shifted-front : (i : ℕ) (xs : List ℕ) → i < length xs → length (take i (drop 1 xs)) ≡ i
shifted-front i xs h = length-take-le i (drop 1 xs) (simp length-drop (omega arith))

pub length-shifted : (i : ℕ) (xs : List ℕ) → i < length xs → length (shifted i xs) ≡ length xs
unfolding shifted
length-shifted i xs h = simp (length-append, length-drop) (omega (arith, shifted-front i xs h))

-- a store at the next place
shifted-set : (i x : ℕ) (xs : List ℕ) → i < length xs → set (shifted i xs) i x ≡ take i (drop 1 xs) ++ (x ∷ drop (suc i) xs)
unfolding shifted
shifted-set i x xs h = rw (drop-cons xs i 0 h) (set_at (take i (drop 1 xs)) _ _ x i (shifted-front i xs h))

-- the next place takes what stands behind it
pub shifted-more :
    (i : ℕ) (xs : List ℕ) → i + 1 < length xs → set (shifted i xs) i (get_or (shifted i xs) (i + 1) 0) ≡ shifted (i + 1) xs
unfolding shifted
shifted-more i xs h =
    ap (λ (x : ℕ). set (shifted i xs) i x) next
    ∙ shifted-set i (get_or xs (i + 1) 0) xs (omega arith)
    ∙ sym (rw (add-one, take-suc (drop 1 xs) i 0 behind, get_or-drop, one) (append_snoc (take i (drop 1 xs)) _ _))
  where
    one : 1 + i ≡ suc i
    one = omega arith

    behind : i < length (drop 1 xs)
    behind = simp length-drop (omega arith)

    next : get_or (take i (drop 1 xs) ++ drop i xs) (i + 1) 0 ≡ get_or xs (i + 1) 0
    next =
        ap (λ (n : ℕ). get_or (take i (drop 1 xs) ++ drop i xs) (n + 1) 0) (sym (shifted-front i xs (omega arith)))
        ∙ get_or-append-add (take i (drop 1 xs)) (drop i xs) 1 0
        ∙ get_or-drop i xs 1 0

-- the last place is cleared: the first member is gone, and zeros stand behind the others
pub shifted_end :
    (i : ℕ) (xs : List ℕ) → i < length xs → ((k : ℕ) → i + 1 ≤ k → k < length xs → get_or xs k 0 ≡ 0) →
    set (shifted i xs) i 0 ≡ pad (length xs) (drop 1 (take (i + 1) xs))
unfolding pad
shifted_end i xs h z =
    shifted-set i 0 xs h
    ∙ sym
    (rw (add-one, tail xs, shifted-front i xs h, less)
    (ap (λ (r : List ℕ). take i (drop 1 xs) ++ (0 ∷ r)) (sym (rw add-one at (zeros-behind (i + 1) xs z)))))
  where
    tail : (ys : List ℕ) → drop 1 (take (suc i) ys) ≡ take i (drop 1 ys)
    tail [] = sym (take-nil i)
    tail (y ∷ ys) = refl

    less : length xs - i ≡ suc (length xs - suc i)
    less = omega arith
