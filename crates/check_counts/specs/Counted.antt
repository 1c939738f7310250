-- How many blocks are in one of two states: a count in parts.
-- Assumes nothing.
use Rattle.std.specs.Prelude.{◌≡◌, refl, Bool, true, false, ◌||◌, List, ℕ, ◌+◌, ◌-◌, ◌≤◌, ◌<◌, length, get_or, take, drop, eqb}
use Rattle.std.proofs.Common.{sym, ◌∙◌, ap, arith, length-drop, length-take-le, get_or-take, get_or-drop, eqb-true, ne_eqb}
use Rattle.std.proofs.Math.Bool.{or_self}
use mir.Val.{bool_byte}
use Rattle.laws.specs.Tests.{bit, tally, tally-none, tally-more, tally-most, tally-same}
use Rattle.laws.specs.Counts.{tally-behind, tally-either}

-- the most states that are counted in a byte
abbrev pub few : ℕ
few = 192

-- what stands at place k is this state
abbrev pub in_state : List ℕ → ℕ → ℕ → Bool
in_state states state k = eqb (get_or states k 0) state

-- or one of two
abbrev pub in_either : List ℕ → ℕ → ℕ → ℕ → Bool
in_either states one other k = in_state states one k || in_state states other k

-- how many states are one of two
abbrev pub counted : List ℕ → ℕ → ℕ → ℕ
counted states one other = tally (length states) (in_either states one other)

-- where both are the same
pub counted-one : (states : List ℕ) (state : ℕ) → counted states state state ≡ tally (length states) (in_state states state)
counted-one states state = tally-same (length states) _ _ (λ k l. or_self (in_state states state k))

-- and where they differ
pub counted-two :
    (states : List ℕ) (one other : ℕ) → (one ≡ other → ⊥) →
    counted states one other ≡ tally (length states) (in_state states one) + tally (length states) (in_state states other)
counted-two states one other d =
    tally-either (length states) (in_state states one) (in_state states other)
    (λ k e. ne_eqb _ _ (λ z. d (sym (eqb-true (get_or states k 0) one e) ∙ z)))

-- a test as a byte
pub byte-bit : (b : Bool) → bool_byte b ≡ bit b
byte-bit true = refl
byte-bit false = refl

-- the first i states are counted
pub record Passed (states : List ℕ) (one other i n : ℕ) : Type 0 where
  pub inside : i ≤ length states
  pub told : n ≡ tally i (in_either states one other)

pub passed_none : (states : List ℕ) (one other : ℕ) → Passed states one other 0 0
passed_none states one other = record { inside = omega arith; told = sym (tally-none _) }

-- no more than there are
pub passed-most : {states : List ℕ} {one other i n : ℕ} → Passed states one other i n → n ≤ length states
passed-most {states} {one} {other} {i} p = omega (arith, p.told, p.inside, tally-most i (in_either states one other))

-- one state more
pub passed-more :
    {states : List ℕ} {one other i n : ℕ} → Passed states one other i n → i < length states →
    Passed states one other (i + 1) (n + bool_byte (in_either states one other i))
passed-more {states} {one} {other} {i} p h =
    record { inside = omega arith; told = rw (p.told, tally-more, byte-bit) }

-- one part more
pub passed-part :
    {states : List ℕ} {one other from n : ℕ} (to : ℕ) {m : ℕ} → Passed states one other from n → from ≤ to → to ≤ length states →
    m ≡ counted (take (to - from) (drop from states)) one other → Passed states one other to (n + m)
passed-part {states} {one} {other} {from} to p h k e =
    record {
      inside = k;
      told =
          rw (p.told, e, long)
          (ap (λ (n : ℕ). tally from (in_either states one other) + n)
          (tally-same (to - from) _ _ (λ i l.
          ap (λ (x : ℕ). eqb x one || eqb x other) (get_or-take (to - from) (drop from states) i 0 l ∙ get_or-drop from states i 0)))
          ∙ sym (tally-behind from (to - from) (in_either states one other))
          ∙ ap (λ (n : ℕ). tally n (in_either states one other)) ends);
    }
  where
    long : length (take (to - from) (drop from states)) ≡ to - from
    long = length-take-le (to - from) (drop from states) (simp length-drop (omega arith))

    ends : from + (to - from) ≡ to
    ends = omega arith

-- all of them
pub passed-all : {states : List ℕ} {one other i n : ℕ} → Passed states one other i n → length states ≤ i → n ≡ counted states one other
passed-all {states} {one} {other} {i} p h =
    let q : i ≡ length states = omega (arith, p.inside) in
    p.told ∙ ap (λ (n : ℕ). tally n (in_either states one other)) q
