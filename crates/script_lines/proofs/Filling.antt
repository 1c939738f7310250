-- The digits of a number, counted, and written from the last one to the first.
-- Assumes nothing.
use mathlib.Core.Path.{◌≡◌, refl, sym, ◌∙◌, ap}
use mathlib.Core.List.{List, [], ◌∷◌, ◌++◌}
use Prim.Native.Nat.{ℕ, zero, suc, ◌+◌, ◌-◌, ◌*◌, ◌/◌, ◌%◌, ◌^◌, ◌≤◌, ◌<◌}
use native.Mathlib.Nat.{one-le-pow, pow-suc}
use native.Mathlib.Omega.{arith}
use native.Mathlib.Decide.{dec_lt}
use Rattle.std.specs.Prelude.{max}
use lib.ListN.{length, set, length-append}
use lib.Seq.{sets, append_snoc}
use Rattle.laws.specs.Digits.{digits, digits-one, digits_more}
use Rattle.laws.specs.Rows.{set_before}
use Rattle.script_lines.specs.Buffer.{length-one, length_more, digits-some, digits-short}

-- a number has a digit more than the highest power of ten in it says
digits-long : (k n : ℕ) → 10 ^ k ≤ n → suc k ≤ length (digits n)
digits-long zero n h = digits-some n
digits-long (suc k) n h =
    let more : 10 ≤ n = omega (arith, pow-suc 10 k, one-le-pow k 10 (omega arith)) in
    omega (arith, length_more n more, digits-long k (n / 10) (omega (arith, pow-suc 10 k)))

-- and a number of one digit has one, 0 as well
pub digits-counted : (k n m : ℕ) → m ≡ max n 1 → 10 ^ k ≤ m → m < 10 * 10 ^ k → k + 1 ≡ length (digits n)
digits-counted zero n m e h l = omega (arith, length-one n (omega arith))
digits-counted (suc k) n m e h l =
    let some : 10 ≤ m = omega (arith, pow-suc 10 k, one-le-pow k 10 (omega arith)) in
    omega (arith, digits-long (suc k) n (omega (arith, pow-suc 10 k)), digits-short (suc k) n (omega (arith, pow-suc 10 (suc k))))

-- the last digits of a number stand in the buffer from a place on, and those before it are those of the rest
pub record Filled (before : List ℕ) (at n : ℕ) (after : List ℕ) (rest place : ℕ) : Type 0 where
  pub front : List ℕ
  pub behind : List ℕ
  pub joined : digits n ≡ front ++ behind
  pub placed : place ≡ at + length front
  pub left : at < place → front ≡ digits rest
  pub written : after ≡ sets before place behind

module _ {before : List ℕ} {at n : ℕ} {after : List ℕ} {rest place : ℕ} (f : Filled before at n after rest place) where
  -- at the first digit all are written
  pub all-filled : place ≤ at → after ≡ sets before at (digits n)
  all-filled h =
      let e : place ≡ at = omega (arith, f.placed) in
      f.written ∙ rw e (ap (sets before at) (none f.front (omega (arith, f.placed)) f.joined))
    where
      none : (xs : List ℕ) → length xs ≡ 0 → digits n ≡ xs ++ f.behind → f.behind ≡ digits n
      none [] z q = sym q
      none (x ∷ xs) z q = absurd (omega arith)

  module _ (h : at < place) where
    written-before : (v : ℕ) → set after (place - 1) v ≡ sets before (place - 1) (v ∷ f.behind)
    written-before v =
        let e : place ≡ suc (place - 1) = omega arith in
        ap (λ (xs : List ℕ). set xs (place - 1) v) f.written
        ∙ ap (λ (i : ℕ). set (sets before i f.behind) (place - 1) v) e
        ∙ set_before (suc (place - 1)) (place - 1) v before f.behind (omega arith)

    -- the digits of the rest are those of its tenth, and its last one
    split : (xs : List ℕ) × (digits rest ≡ xs ++ ((48 + rest % 10) ∷ [])) × (0 < length xs → xs ≡ digits (rest / 10))
    split = go (dec_lt rest 10)
      where
        go : Dec (rest < 10) → (xs : List ℕ) × (digits rest ≡ xs ++ ((48 + rest % 10) ∷ [])) × (0 < length xs → xs ≡ digits (rest / 10))
        go (yes d) =
            let e : rest % 10 ≡ rest = omega arith in
            ([], rw e (digits-one rest d), λ z. absurd (omega arith))
        go (no d) = (digits (rest / 10), digits_more rest (omega arith), λ z. refl)

    pub one-filled : Filled before at n (set after (place - 1) (48 + rest % 10)) (rest / 10) (place - 1)
    one-filled = record {
      front = split.0;
      behind = (48 + rest % 10) ∷ f.behind;
      joined =
          f.joined
          ∙ ap (λ (xs : List ℕ). xs ++ f.behind) (f.left h ∙ split.1)
          ∙ append_snoc split.0 (48 + rest % 10) f.behind;
      placed =
          omega (arith, f.placed, ap length (f.left h), ap length split.1, length-append split.0 ((48 + rest % 10) ∷ []));
      left = λ z. split.2 (omega (arith, f.placed, ap length (f.left h), ap length split.1, length-append split.0 ((48 + rest % 10) ∷ [])));
      written = written-before (48 + rest % 10);
    }

-- what the check of `digit_count` and `put_number` uses
pub ruleset filling = (digits-counted, one-filled, all-filled)
