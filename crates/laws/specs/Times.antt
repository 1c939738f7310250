-- How often a number stands in a list: none, one behind another, one member more.
-- Assumes nothing.
use Rattle.std.specs.Prelude.{◌≡◌, refl, Bool, true, false, List, [], ◌∷◌, ◌++◌, ℕ, ◌+◌, ◌<◌, length, get_or, take, eqb}
use Rattle.std.proofs.Common.{sym, add-one, arith, take-suc}
use Rattle.laws.specs.Tests.{bit}
use Rattle.laws.specs.Lists.{times}

-- tests that imply each other are the same
pub same_test : (a b : Bool) → (a ≡ true → b ≡ true) → (b ≡ true → a ≡ true) → a ≡ b
same_test true b f g = sym (f refl)
same_test false true f g = g refl
same_test false false f g = refl

pub times_none : (x : ℕ) → times x [] ≡ 0
unfolding times
times_none x = refl

pub times-append : (x : ℕ) (ys zs : List ℕ) → times x (ys ++ zs) ≡ times x ys + times x zs
unfolding times
times-append x [] zs = omega arith
times-append x (y ∷ ys) zs = omega (arith, times-append x ys zs)

pub times-one : (x y : ℕ) → times x (y ∷ []) ≡ bit (eqb x y)
unfolding times
times-one x y = omega arith

-- one member more, as code counts
pub times_more :
    (x : ℕ) (ys : List ℕ) (i : ℕ) → i < length ys →
    times x (take (i + 1) ys) ≡ times x (take i ys) + bit (eqb x (get_or ys i 0))
times_more x ys i h = rw (add-one, take-suc ys i 0, times-append, times-one)
