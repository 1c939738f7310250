-- Laws of what is kept of a list, of a list with zeros behind it, of a list that is gone through in place, and of a run of stores.
-- Assumes nothing.
use Rattle.std.specs.Prelude.{◌≡◌, refl, Bool, true, false, cond, ◌≢◌, List, [], ◌∷◌, ◌++◌, ℕ, zero, suc, ◌+◌, ◌-◌, ◌≤◌, ◌<◌, length, get_or, set, take, drop, replicate}
use Rattle.std.proofs.Common.{sym, ◌∙◌, ap, append_assoc, append-nil, add-zero, not-suc-le-zero, add-one, arith, length-append, length-take, length-drop, length-set, take-append-drop, take-suc, drop-cons, take_at, length-take-le, get_or-drop, ext_get_or, get_or-set_same, get_or-set_other}
use Rattle.std.proofs.lemmas.List.{length-replicate, get_or-replicate, replicate-append-replicate, set_at, get_or_at, set-append_left}
use Rattle.std.proofs.Math.Seq.{append_snoc}
use Rattle.std.proofs.lemmas.List.Edits.{sets}
use Rattle.laws.specs.Lists.{pad, keep}

pub keep-none : (f : ℕ → Bool) → keep f [] ≡ []
unfolding keep
keep-none f = refl

pub keep_append : (f : ℕ → Bool) (xs ys : List ℕ) → keep f (xs ++ ys) ≡ keep f xs ++ keep f ys
unfolding keep
keep_append f [] ys = refl
keep_append f (x ∷ xs) ys = pick (f x) (keep_append f xs ys)
  where
    pick :
        (b : Bool) → keep f (xs ++ ys) ≡ keep f xs ++ keep f ys →
        cond b (x ∷ keep f (xs ++ ys)) (keep f (xs ++ ys)) ≡ cond b (x ∷ keep f xs) (keep f xs) ++ keep f ys
    pick true e = ap (λ (r : List ℕ). x ∷ r) e
    pick false e = e

pub keep-most : (f : ℕ → Bool) (xs : List ℕ) → length (keep f xs) ≤ length xs
unfolding keep
keep-most f [] = omega arith
keep-most f (x ∷ xs) = pick (f x) (keep-most f xs)
  where
    pick : (b : Bool) → length (keep f xs) ≤ length xs → length (cond b (x ∷ keep f xs) (keep f xs)) ≤ suc (length xs)
    pick true h = omega arith
    pick false h = omega arith

-- one member more, which passes or not
pub keep-one-pass :
    (f : ℕ → Bool) (xs : List ℕ) (x : ℕ) → f x ≡ true → keep f (xs ++ (x ∷ [])) ≡ keep f xs ++ (x ∷ [])
unfolding keep
keep-one-pass f xs x e = rw keep_append (simp e)

pub keep-one-fail : (f : ℕ → Bool) (xs : List ℕ) (x : ℕ) → f x ≡ false → keep f (xs ++ (x ∷ [])) ≡ keep f xs
unfolding keep
keep-one-fail f xs x e = rw keep_append (simp (e, append-nil))

-- the same, where it is the next member of a list that is gone through
pub keep-pass :
    (f : ℕ → Bool) (xs : List ℕ) (i : ℕ) → i < length xs → f (get_or xs i 0) ≡ true →
    keep f (take (i + 1) xs) ≡ keep f (take i xs) ++ (get_or xs i 0 ∷ [])
keep-pass f xs i h e = rw (add-one, take-suc xs i 0 h) (keep-one-pass f (take i xs) (get_or xs i 0) e)

pub keep-fail :
    (f : ℕ → Bool) (xs : List ℕ) (i : ℕ) → i < length xs → f (get_or xs i 0) ≡ false →
    keep f (take (i + 1) xs) ≡ keep f (take i xs)
keep-fail f xs i h e = rw (add-one, take-suc xs i 0 h) (keep-one-fail f (take i xs) (get_or xs i 0) e)

pub length-pad : (n : ℕ) (xs : List ℕ) → length xs ≤ n → length (pad n xs) ≡ n
unfolding pad
length-pad n xs h = simp (length-append, length-replicate) (omega arith)

pub take-pad : (n : ℕ) (xs : List ℕ) → take (length xs) (pad n xs) ≡ xs
unfolding pad
take-pad n xs = take_at xs _ (length xs) refl

-- a place more holds zero
pub pad-more : (n : ℕ) (xs : List ℕ) → length xs ≤ n → pad n xs ++ (0 ∷ []) ≡ pad (n + 1) xs
unfolding pad
pad-more n xs h =
    let e : n - length xs + 1 ≡ n + 1 - length xs = omega arith in
    append_assoc xs _ _ ∙ ap (λ (r : List ℕ). xs ++ r) (replicate-append-replicate (n - length xs) 1 0) ∙ rw e

-- the first of the zeros is stored over
pub pad-set : (n x : ℕ) (xs : List ℕ) → length xs < n → set (pad n xs) (length xs) x ≡ pad n (xs ++ (x ∷ []))
unfolding pad
pad-set n x xs h =
    let e : n - length xs ≡ suc (n - (length xs + 1)) = omega arith in
    rw (e, length-append) (set_at xs 0 _ x (length xs) refl ∙ sym (append_snoc xs x _))

-- where every place from n on holds zero, as many zeros stand there
pub zeros-behind :
    (n : ℕ) (xs : List ℕ) → ((i : ℕ) → n ≤ i → i < length xs → get_or xs i 0 ≡ 0) → drop n xs ≡ replicate (length xs - n) 0
zeros-behind n xs z =
    rw (← length-drop n xs)
    (zeros (drop n xs) (λ i l. get_or-drop n xs i 0 ∙ z (n + i) (omega arith) (omega (arith, length-drop n xs))))
  where
    zeros : (ys : List ℕ) → ((i : ℕ) → i < length ys → get_or ys i 0 ≡ 0) → ys ≡ replicate (length ys) 0
    zeros ys h =
        ext_get_or 0 ys _ (sym (length-replicate (length ys) 0)) (λ i k. h i k ∙ sym (get_or-replicate (length ys) i 0 0 k))

-- behind a list with zeros up to i places the next place is cleared
pub pad-clear :
    (i : ℕ) (xs ys : List ℕ) → length xs ≤ i → i < length ys →
    set (pad i xs ++ drop i ys) i 0 ≡ pad (i + 1) xs ++ drop (i + 1) ys
pad-clear i xs ys h k =
    rw (drop-cons ys i 0 k, add-one)
    (set_at (pad i xs) _ _ 0 i (length-pad i xs h)
    ∙ sym (append_snoc (pad i xs) 0 (drop (suc i) ys))
    ∙ ap (λ (r : List ℕ). r ++ drop (suc i) ys) (rw add-one at (pad-more i xs h)))

-- and where zeros alone stand behind, they are the list's zeros too
pub pad-join :
    (n : ℕ) (xs ys : List ℕ) → length xs ≤ n → n ≤ length ys → ((i : ℕ) → n ≤ i → i < length ys → get_or ys i 0 ≡ 0) →
    pad n xs ++ drop n ys ≡ pad (length ys) xs
unfolding pad
pad-join n xs ys h k z =
    let e : n - length xs + (length ys - n) ≡ length ys - length xs = omega arith in
    rw (zeros-behind n ys z) (append_assoc xs _ _ ∙ rw (replicate-append-replicate, e))

-- such a list is its first n with zeros behind them
pub pad-take :
    (n : ℕ) (xs : List ℕ) → n ≤ length xs → ((i : ℕ) → n ≤ i → i < length xs → get_or xs i 0 ≡ 0) →
    xs ≡ pad (length xs) (take n xs)
unfolding pad
pad-take n xs h z =
    rw (length-take-le n xs h, ← zeros-behind n xs z) (sym (take-append-drop n xs))

-- and one more is stored behind those n
pub pad-append :
    (n x : ℕ) (xs : List ℕ) → n < length xs → ((i : ℕ) → n ≤ i → i < length xs → get_or xs i 0 ≡ 0) →
    set xs n x ≡ pad (length xs) (take n xs ++ (x ∷ []))
pad-append n x xs h z =
    let e : length (take n xs) ≡ n = length-take-le n xs (omega arith) in
    ap (λ (r : List ℕ). set r n x) (pad-take n xs (omega arith) z)
    ∙ ap (λ (k : ℕ). set (pad (length xs) (take n xs)) k x) (sym e)
    ∙ pad-set (length xs) x (take n xs) (omega arith)

-- a list whose first i members have been gone through: those that pass stand in front, zeros behind them, and the rest as it was
unfoldable pub sifted : (ℕ → Bool) → ℕ → List ℕ → List ℕ
sifted f i xs = pad i (keep f (take i xs)) ++ drop i xs

pub sifted-none : (f : ℕ → Bool) (xs : List ℕ) → sifted f 0 xs ≡ xs
unfolding sifted pad keep
sifted-none f xs = refl

pub keep-take-most : (f : ℕ → Bool) (i : ℕ) (xs : List ℕ) → length (keep f (take i xs)) ≤ i
keep-take-most f i xs = omega (arith, keep-most f (take i xs), length-take i xs)

-- the next member still stands at its place
pub sifted-at : (f : ℕ → Bool) (i : ℕ) (xs : List ℕ) → i < length xs → get_or (sifted f i xs) i 0 ≡ get_or xs i 0
unfolding sifted
sifted-at f i xs h =
    rw (drop-cons xs i 0 h)
    (get_or_at (pad i (keep f (take i xs))) _ _ 0 i (length-pad i (keep f (take i xs)) (keep-take-most f i xs)))

pub length-sifted : (f : ℕ → Bool) (i : ℕ) (xs : List ℕ) → i ≤ length xs → length (sifted f i xs) ≡ length xs
unfolding sifted
length-sifted f i xs h =
    simp (length-append, length-drop) (omega (arith, length-pad i (keep f (take i xs)) (keep-take-most f i xs)))

-- the next member fails, and its place is cleared
pub sifted-fail :
    (f : ℕ → Bool) (i : ℕ) (xs : List ℕ) → i < length xs → f (get_or xs i 0) ≡ false →
    set (sifted f i xs) i 0 ≡ sifted f (i + 1) xs
unfolding sifted
sifted-fail f i xs h e = pad-clear i (keep f (take i xs)) xs (keep-take-most f i xs) h ∙ rw (keep-fail f xs i h e)

-- the next member passes: its place is cleared, and it is stored behind those that passed before
pub sifted-pass :
    (f : ℕ → Bool) (i : ℕ) (xs : List ℕ) → i < length xs → f (get_or xs i 0) ≡ true →
    set (set (sifted f i xs) i 0) (length (keep f (take i xs))) (get_or xs i 0) ≡ sifted f (i + 1) xs
unfolding sifted
sifted-pass f i xs h e =
    rw (pad-clear i (keep f (take i xs)) xs (keep-take-most f i xs) h, keep-pass f xs i h e)
    (stored (keep-take-most f i xs))
  where
    stored :
        length (keep f (take i xs)) ≤ i →
        set (pad (i + 1) (keep f (take i xs)) ++ drop (i + 1) xs) (length (keep f (take i xs))) (get_or xs i 0)
        ≡ pad (i + 1) (keep f (take i xs) ++ (get_or xs i 0 ∷ [])) ++ drop (i + 1) xs
    stored k =
        set-append_left (pad (i + 1) (keep f (take i xs))) _ _ _
        (omega (arith, length-pad (i + 1) (keep f (take i xs)) (omega arith)))
        ∙ ap (λ (r : List ℕ). r ++ drop (i + 1) xs) (pad-set (i + 1) (get_or xs i 0) (keep f (take i xs)) (omega arith))

-- all up to n have been gone through, and zeros stand behind
pub sifted-all :
    (f : ℕ → Bool) (n : ℕ) (xs : List ℕ) → n ≤ length xs → ((i : ℕ) → n ≤ i → i < length xs → get_or xs i 0 ≡ 0) →
    sifted f n xs ≡ pad (length xs) (keep f (take n xs))
unfolding sifted
sifted-all f n xs h z = pad-join n (keep f (take n xs)) xs (keep-take-most f n xs) h z

-- of a run of stores, what stands at a place that it doesn't reach
pub get_or-sets-other :
    (xs vs : List ℕ) (i j d : ℕ) → ((k : ℕ) → k < length vs → j ≢ i + k) → get_or (sets xs i vs) j d ≡ get_or xs j d
get_or-sets-other xs [] i j d h = refl
get_or-sets-other xs (v ∷ vs) i j d h =
    get_or-sets-other (set xs i v) vs (suc i) j d (λ k l. omega (arith, h (suc k) (omega arith)))
    ∙ get_or-set_other xs i j v d (omega (arith, h 0 (omega arith)))

-- and what stands at a place that it reaches
pub get_or-sets :
    (xs vs : List ℕ) (i k d : ℕ) → k < length vs → i + length vs ≤ length xs → get_or (sets xs i vs) (i + k) d ≡ get_or vs k d
get_or-sets xs [] i k d h fits = absurd (not-suc-le-zero h)
get_or-sets xs (v ∷ vs) i zero d h fits =
    rw add-zero
    (get_or-sets-other (set xs i v) vs (suc i) i d (λ k l. omega arith) ∙ get_or-set_same xs i v d (omega arith))
get_or-sets xs (v ∷ vs) i (suc k) d h fits =
    let e : i + suc k ≡ suc i + k = omega arith in
    rw e (get_or-sets (set xs i v) vs (suc i) k d (omega arith) (simp length-set (omega arith)))
