-- One turn and the end of the loop over the calls, and what the calls that are counted are.
-- Assumes nothing.
use Rattle.std.proofs.Common.{◌≡◌, refl, sym, ◌∙◌, ap₂, Bool, true, false, ◌&&◌, ◌⊎◌, inl, inr, List, length, ℕ, ◌+◌, ◌*◌, ◌≤◌, ◌<◌, eqb, add-zero, arith, eqb-true, eq-eqb, ne_eqb}
use Rattle.std.proofs.Math.Bool.{and-true, and-false, or-true}
use Rattle.laws.specs.Tests.{bit, both, both_of, every, every-none, every_more, every-both, tally, tally-none, tally-more, tally-most}
use Rattle.laws.specs.Times.{same_test}
use Rattle.shape.specs.declared.Shape.{Shape}
use Rattle.shape.specs.Limits.{allowed}
use Rattle.shape.specs.Blocks.{blocks}
use Rattle.rules.specs.declared.Call.{Call}
use Rattle.rules.specs.Numbers.{CELLS, FREEING, ALLOCATING, DIVIDING, RELEASING}
use Rattle.rules.specs.Tables.{call_of}
use Rattle.rules.specs.Valid.{dividing, releasing, one_to_one}
use Rattle.check_counts.specs.Counted.{counted, counted-two}
use Rattle.check_hands.specs.Hands.{hands_inside, at_stage, alone_with, hand_alone, hand_known, Lent, Hands, hands, hand_at, corresponds, alone-fewer}

-- a call at either stage is alone with a block of its state
abbrev pub own_alone : Shape → List ℕ → List ℕ → Call → Bool
own_alone s states calls c =
    hand_alone s states calls ALLOCATING dividing c && hand_alone s states calls FREEING releasing c

-- where both pairs are in order, their sums agree exactly if both agree
meet :
    (f g t u : ℕ) (a b : Bool) → (a ≡ true → t ≤ f) → (b ≡ true → u ≤ g) →
    (eqb (f + g) (t + u) && (a && b)) ≡ ((eqb f t && a) && (eqb g u && b))
meet f g t u true true h k = simp and-true (same_test _ _ there back)
  where
    there : eqb (f + g) (t + u) ≡ true → (eqb f t && eqb g u) ≡ true
    there e =
        let q : f + g ≡ t + u = eqb-true _ _ e in
        both_of _ _ (eq-eqb f t (omega (arith, h refl, k refl))) (eq-eqb g u (omega (arith, h refl, k refl)))

    back : (eqb f t && eqb g u) ≡ true → eqb (f + g) (t + u) ≡ true
    back e =
        let p = both (eqb f t) (eqb g u) e in
        eq-eqb _ _ (ap₂ ◌+◌ (eqb-true f t p.0) (eqb-true g u p.1))
meet f g t u true false h k = simp and-false
meet f g t u false b h k = simp and-false

-- a call's stage asks for a block of this state in hand
abbrev pub Holds : Call → ℕ → Type 0
Holds c st = ((c.stage ≡ DIVIDING) × (st ≡ ALLOCATING)) ⊎ ((c.stage ≡ RELEASING) × (st ≡ FREEING))

-- so many of the first t calls are dividing or releasing, and the flag says whether each of these is alone
pub record Looked (s : Shape) (states calls : List ℕ) (ok : Bool) (n t : ℕ) : Type 0 where
  pub sum : n ≡ tally t (λ u. dividing (call_of calls u)) + tally t (λ u. releasing (call_of calls u))
  pub each : ok ≡ every t (λ u. own_alone s states calls (call_of calls u))

pub looked-none : (s : Shape) (states calls : List ℕ) → Looked s states calls true 0 0
looked-none s states calls = record { sum = simp tally-none; each = sym (every-none _) }

-- no more than two for each thread
pub looked-most : {s : Shape} {states calls : List ℕ} {ok : Bool} {n t : ℕ} → Looked s states calls ok n t → n ≤ 2 * t
looked-most {calls = calls} {t = t} p =
    omega (
      arith,
      p.sum,
      tally-most t (λ u. dividing (call_of calls u)),
      tally-most t (λ u. releasing (call_of calls u)),
    )

module _ (s : Shape) (states calls : List ℕ) (t : ℕ) (c : Call) (at : c ≡ call_of calls t) where
  -- one call more
  looked-more :
      {ok : Bool} {n : ℕ} (a : Bool) (k : ℕ) → Looked s states calls ok n t → bit (dividing c) + bit (releasing c) ≡ k →
      own_alone s states calls c ≡ a → Looked s states calls (ok && a) (n + k) (t + 1)
  looked-more a k p e q =
      record {
        sum =
            omega (
              arith,
              p.sum,
              tally-more t (λ u. dividing (call_of calls u)),
              tally-more t (λ u. releasing (call_of calls u)),
              rw at at e,
            );
        each = rw (every_more, p.each, ← at, q);
      }

  -- of a call with a block in hand it is asked that it is alone with a block of that state
  asked : (st : ℕ) → Holds c st → own_alone s states calls c ≡ alone_with s states calls st (at_stage c.stage) c
  asked st (inl (e, v)) = rw (v, e, and-true)
  asked st (inr (e, v)) = rw (v, e)

  -- a call with a block in hand, and any other
  pub looked-hand :
      {ok a : Bool} {n st : ℕ} → Looked s states calls ok n t → Holds c st → a ≡ alone_with s states calls st (at_stage c.stage) c →
      Looked s states calls (ok && a) (n + 1) (t + 1)
  looked-hand {a = a} {st = st} p h q = looked-more a 1 p (one h) (asked st h ∙ sym q)
    where
      one : Holds c st → bit (dividing c) + bit (releasing c) ≡ 1
      one (inl (e, v)) = rw e
      one (inr (e, v)) = rw e

  pub looked-other :
      {ok : Bool} {n : ℕ} → Looked s states calls ok n t → (c.stage ≡ DIVIDING → ⊥) → (c.stage ≡ RELEASING → ⊥) →
      Looked s states calls ok n (t + 1)
  looked-other {ok} {n} p d r =
      let q = ne_eqb c.stage DIVIDING d in
      let v = ne_eqb c.stage RELEASING r in
      rw (and-true, add-zero) at (looked-more {ok = ok} {n = n} true 0 p (rw (q, v)) (rw (q, v)))

module _
    (s : Shape) (states calls : List ℕ)
    (given : (allowed s ≡ true) × (length states ≡ blocks s) × (length calls ≡ CELLS * s.threads) × (hands_inside s calls ≡ true)) where
  -- blocks in hand are blocks of the shape
  divided : Hands s states calls dividing
  divided = hands s states calls dividing (λ c e. rw e) given

  released : Hands s states calls releasing
  released = hands s states calls releasing (λ c e. rw (e, or-true)) given

  pub held :
      (t : ℕ) (c : Call) (st : ℕ) → t < s.threads → c ≡ call_of calls t → Holds c st → Lent s states calls × hand_known s c
  held t c st l q (inl (e, v)) = (divided.lent, hand_at divided t c q l (eq-eqb _ _ e))
  held t c st l q (inr (e, v)) = (released.lent, hand_at released t c q l (eq-eqb _ _ e))

  -- as many blocks of both states as calls at both stages, and each of these alone
  both-ways :
      (eqb (counted states ALLOCATING FREEING) (tally s.threads (λ u. dividing (call_of calls u)) + tally s.threads (λ u. releasing (call_of calls u)))
      && every s.threads (λ u. own_alone s states calls (call_of calls u)))
      ≡ (one_to_one ALLOCATING dividing s states calls && one_to_one FREEING releasing s states calls)
  both-ways =
      rw (counted-two states ALLOCATING FREEING (λ z. omega arith), each)
      (meet _ _ _ _ _ _ (alone-fewer s states calls dividing divided ALLOCATING) (alone-fewer s states calls releasing released FREEING)
      ∙ ap₂ ◌&&◌ (corresponds s states calls dividing divided ALLOCATING) (corresponds s states calls releasing released FREEING))
    where
      each :
          every s.threads (λ u. own_alone s states calls (call_of calls u))
          ≡ (every s.threads (λ u. hand_alone s states calls ALLOCATING dividing (call_of calls u))
          && every s.threads (λ u. hand_alone s states calls FREEING releasing (call_of calls u)))
      each = every-both s.threads _ _

  -- all calls
  pub looked-all :
      {ok : Bool} {n t m : ℕ} → Looked s states calls ok n t → t ≡ s.threads → m ≡ counted states ALLOCATING FREEING →
      (eqb m n && ok) ≡ (one_to_one ALLOCATING dividing s states calls && one_to_one FREEING releasing s states calls)
  looked-all p q e = rw (e, p.sum, p.each, q) both-ways
