-- Numbers as bytes: decimal digits, and numbers of several bytes, lowest first.
-- Assumes nothing.
use Rattle.std.specs.Prelude.{◌≡◌, refl, Bool, true, false, cond, List, [], ◌∷◌, ◌++◌, ℕ, zero, suc, ◌+◌, ◌*◌, ◌/◌, ◌%◌, ◌≤◌, ◌<◌, ltb}
use Rattle.std.proofs.Common.{ap, arith, ltb-false, lt-ltb, le-ltb}

-- the digits of a number with at most this many more to come, as ASCII
unfoldable pub digits_within : ℕ → ℕ → List ℕ
digits_within zero n = (48 + n) ∷ []
digits_within (suc more) n = cond (ltb n 10) ((48 + n) ∷ []) (digits_within more (n / 10) ++ ((48 + n % 10) ∷ []))

-- the decimal digits of a number, as ASCII
unfoldable pub digits : ℕ → List ℕ
digits n = digits_within n n

-- a number of several bytes, the lowest first
unfoldable pub little : List ℕ → ℕ
little [] = 0
little (b ∷ bs) = b + 256 * little bs

-- more than enough is enough
enough : (f g n : ℕ) → n ≤ f → n ≤ g → digits_within f n ≡ digits_within g n
unfolding digits_within
enough zero zero n a b = refl
enough zero (suc g) n a b = rw (lt-ltb n 10 (omega arith))
enough (suc f) zero n a b = rw (lt-ltb n 10 (omega arith))
enough (suc f) (suc g) n a b = pick (λ h. enough f g (n / 10) (omega (arith, h)) (omega (arith, h))) (ltb n 10) refl
  where
    pick :
        (10 ≤ n → digits_within f (n / 10) ≡ digits_within g (n / 10)) → (t : Bool) → ltb n 10 ≡ t →
        cond t ((48 + n) ∷ []) (digits_within f (n / 10) ++ ((48 + n % 10) ∷ []))
        ≡ cond t ((48 + n) ∷ []) (digits_within g (n / 10) ++ ((48 + n % 10) ∷ []))
    pick rest true e = refl
    pick rest false e = ap (λ (xs : List ℕ). xs ++ ((48 + n % 10) ∷ [])) (rest (ltb-false n 10 e))

-- a number below ten is one digit; any other has the digits of its tenth before its last
pub digits-one : (n : ℕ) → n < 10 → digits n ≡ (48 + n) ∷ []
unfolding digits digits_within
digits-one zero h = refl
digits-one (suc n) h = rw (lt-ltb (suc n) 10 h)

pub digits_more : (n : ℕ) → 10 ≤ n → digits n ≡ digits (n / 10) ++ ((48 + n % 10) ∷ [])
unfolding digits digits_within
digits_more zero h = absurd (omega arith)
digits_more (suc n) h =
    rw (
      le-ltb (suc n) 10 h,
      enough n (suc n / 10) (suc n / 10) (omega arith) (omega arith),
    )
