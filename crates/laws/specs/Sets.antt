-- Runs of stores, one behind the other.
-- Assumes nothing.
use Rattle.std.specs.Prelude.{◌≡◌, List, [], ◌∷◌, ◌++◌, ℕ, suc, ◌+◌, ◌<◌, length, get_or, set, take}
use Rattle.std.proofs.Common.{◌∙◌, add-zero, add-one, arith, length-append, take-suc, length-take-le}
use Rattle.std.proofs.lemmas.List.Edits.{sets}

-- one run behind another is one run
pub sets-append : (xs ys zs : List ℕ) (at : ℕ) → sets (sets xs at ys) (at + length ys) zs ≡ sets xs at (ys ++ zs)
sets-append xs [] zs at = rw add-zero
sets-append xs (y ∷ ys) zs at =
    let e : at + suc (length ys) ≡ suc at + length ys = omega arith in
    rw e (sets-append (set xs at y) ys zs (suc at))

-- a run is stored from a place on, and the place behind it is known
abbrev pub Put : List ℕ → ℕ → List ℕ → ℕ → List ℕ → Type 0
Put before at run next after = (next ≡ at + length run) × (after ≡ sets before at run)

pub put-behind :
    (xs : List ℕ) (at : ℕ) (us vs : List ℕ) {ys zs : List ℕ} {middle next : ℕ} → Put xs at us middle ys →
    Put ys middle vs next zs → Put xs at (us ++ vs) next zs
put-behind xs at us vs p q = (
  omega (arith, p.0, q.0, length-append us vs),
  q.1 ∙ rw (p.0, p.1) (sets-append xs us vs at),
)

-- a copy of a list, one store more
pub sets-copied :
    (xs ys : List ℕ) (at i : ℕ) → i < length ys →
    set (sets xs at (take i ys)) (at + i) (get_or ys i 0) ≡ sets xs at (take (i + 1) ys)
sets-copied xs ys at i h =
    rw (add-one, take-suc ys i 0 h, ← sets-append xs (take i ys) (get_or ys i 0 ∷ []) at, length-take-le i ys (omega arith))
