-- Blocks in hand: that the blocks of a state correspond to the calls that pass a test, told by two counts and a look at each such call.
-- Assumes nothing.
use Rattle.std.specs.Prelude.{◌≡◌, refl, Bool, true, false, not, ◌||◌, List, ℕ, ◌*◌, ◌≤◌, ◌<◌, length}
use Rattle.std.proofs.Math.Path.{sym, ap, ap₂}
use Rattle.std.proofs.Common.{◌∙◌, eqb-true, eq-eqb}
use Rattle.std.proofs.Math.Bool.{◌&&◌}
use Rattle.std.proofs.Math.Dec.{eqb}
use Rattle.laws.specs.Tests.{bit, both, both_of, every, every-at, every_of, every-same, tally, tally-same}
use Rattle.laws.specs.Times.{same_test}
use Rattle.laws.specs.Counts.{holders as holders_at, alone, held-fewer, held-once}
use Rattle.shape.specs.declared.Shape.{Shape}
use Rattle.shape.specs.Limits.{allowed}
use Rattle.shape.specs.Blocks.{count, place, blocks}
use Rattle.shape.specs.Laws.{place_inside, place-once}
use Rattle.shape.specs.Levels.{every-place}
use Rattle.rules.specs.declared.Call.{Call}
use Rattle.rules.specs.Numbers.{CELLS}
use Rattle.rules.specs.Tables.{state_at, call_of}
use Rattle.rules.specs.Valid.{uses_block, hand_inside, in_hand, one_to_one, calls_kept}
use Rattle.facts.specs.Given.{call_facts, hand-inside}
use Rattle.check_counts.specs.Counted.{in_state}

-- every call's block in hand is a block of the shape
unfoldable pub hands_inside : Shape → List ℕ → Bool
hands_inside s calls = every s.threads (λ t. hand_inside s (call_of calls t))

-- which kept calls have
pub kept-inside : (s : Shape) (clock : ℕ) (calls : List ℕ) → calls_kept s clock calls ≡ true → hands_inside s calls ≡ true
unfolding hands_inside
kept-inside s clock calls e = every_of s.threads _ (λ t h. (call_facts s clock calls e t h).hand)

-- a call is at this stage
abbrev pub at_stage : ℕ → Call → Bool
at_stage stage c = eqb c.stage stage

-- how many calls that pass a test have block b of level l in hand
abbrev pub holders : Shape → List ℕ → (Call → Bool) → ℕ → ℕ → ℕ
holders s calls test l b = tally s.threads (λ t. in_hand test l b (call_of calls t))

-- a call's block in hand is in this state, and no other call that passes has it
abbrev pub alone_with : Shape → List ℕ → List ℕ → ℕ → (Call → Bool) → Call → Bool
alone_with s states calls st test c =
    eqb (state_at s states c.level c.block) st && eqb (holders s calls test c.level c.block) 1

-- which is asked of calls that pass
abbrev pub hand_alone : Shape → List ℕ → List ℕ → ℕ → (Call → Bool) → Call → Bool
hand_alone s states calls st test c = not (test c) || alone_with s states calls st test c

-- the block in hand is a block of the shape
abbrev pub hand_known : Shape → Call → Type 0
hand_known s c = (c.level < s.levels) × (c.block < count s c.level)

-- tables of a shape's lengths
pub record Lent (s : Shape) (states calls : List ℕ) : Type 0 where
  pub shape : allowed s ≡ true
  pub states-long : length states ≡ blocks s
  pub calls-long : length calls ≡ CELLS * s.threads

-- and the block in hand of each call that passes is a block of the shape
pub record Hands (s : Shape) (states calls : List ℕ) (test : Call → Bool) : Type 0 where
  pub lent : Lent s states calls
  pub inside : (t : ℕ) → t < s.threads → test (call_of calls t) ≡ true → hand_known s (call_of calls t)

pub hands :
    (s : Shape) (states calls : List ℕ) (test : Call → Bool) → ((c : Call) → test c ≡ true → uses_block c ≡ true) →
    (allowed s ≡ true) × (length states ≡ blocks s) × (length calls ≡ CELLS * s.threads) × (hands_inside s calls ≡ true) →
    Hands s states calls test
unfolding hands_inside
hands s states calls test u h =
    record {
      lent = record { shape = h.0; states-long = h.1; calls-long = h.2 };
      inside = λ t l e. hand-inside s (call_of calls t) (every-at s.threads _ h.3 t l) (u (call_of calls t) e);
    }

-- the block in hand of a call that passes
pub hand_at :
    {s : Shape} {states calls : List ℕ} {test : Call → Bool} → Hands s states calls test → (t : ℕ) (c : Call) →
    c ≡ call_of calls t → t < s.threads → test c ≡ true → hand_known s c
hand_at h t c e l q = rw e (h.inside t l (rw e at q))

-- the place of a thread's block in hand
abbrev hand_place : Shape → List ℕ → ℕ → ℕ
hand_place s calls t = place s (call_of calls t).level (call_of calls t).block

module _ (s : Shape) (states calls : List ℕ) (test : Call → Bool) (h : Hands s states calls test) where
  -- a block in hand is told by its place
  by_place :
      (l b : ℕ) → b < count s l → (t : ℕ) → t < s.threads →
      in_hand test l b (call_of calls t) ≡ (test (call_of calls t) && eqb (hand_place s calls t) (place s l b))
  by_place l b k t m = go (test (call_of calls t)) refl
    where
      c : Call
      c = call_of calls t

      go :
          (a : Bool) → test c ≡ a →
          (a && eqb c.level l && eqb c.block b) ≡ (a && eqb (place s c.level c.block) (place s l b))
      go false e = refl
      go true e = same_test _ _ there back
        where
          there : (eqb c.level l && eqb c.block b) ≡ true → eqb (place s c.level c.block) (place s l b) ≡ true
          there q =
              let p = both (eqb c.level l) (eqb c.block b) q in
              eq-eqb _ _ (ap₂ (place s) (eqb-true c.level l p.0) (eqb-true c.block b p.1))

          back : eqb (place s c.level c.block) (place s l b) ≡ true → (eqb c.level l && eqb c.block b) ≡ true
          back q =
              let p = place-once s c.level c.block l b (h.inside t m e).1 k (eqb-true _ _ q) in
              both_of _ _ (eq-eqb c.level l p.0) (eq-eqb c.block b p.1)

  holders-by-place :
      (l b : ℕ) → b < count s l →
      holders s calls test l b ≡ holders_at s.threads (λ t. test (call_of calls t)) (hand_place s calls) (place s l b)
  holders-by-place l b k = tally-same s.threads _ _ (by_place l b k)

  alone-by-place :
      (st t : ℕ) → t < s.threads →
      hand_alone s states calls st test (call_of calls t)
      ≡ alone s.threads (in_state states st) (λ t. test (call_of calls t)) (hand_place s calls) t
  alone-by-place st t m = go (test (call_of calls t)) refl
    where
      c : Call
      c = call_of calls t

      go :
          (a : Bool) → test c ≡ a →
          (not a || (eqb (state_at s states c.level c.block) st && eqb (holders s calls test c.level c.block) 1))
          ≡ (not a
          || (eqb (state_at s states c.level c.block) st
          && eqb (holders_at s.threads (λ t. test (call_of calls t)) (hand_place s calls) (hand_place s calls t)) 1))
      go false e = refl
      go true e =
          ap (λ (n : ℕ). eqb (state_at s states c.level c.block) st && eqb n 1)
          (holders-by-place c.level c.block (h.inside t m e).1)

  -- as many blocks of a state as calls that pass, and each of these alone with a block of that state: then one to one
  pub corresponds :
      (st : ℕ) →
      (eqb (tally (length states) (in_state states st)) (tally s.threads (λ t. test (call_of calls t)))
      && every s.threads (λ t. hand_alone s states calls st test (call_of calls t)))
      ≡ one_to_one st test s states calls
  unfolding blocks one_to_one
  corresponds st =
      ap₂ ◌&&◌
      (ap (λ (n : ℕ). eqb (tally n (in_state states st)) (tally s.threads (λ t. test (call_of calls t)))) h.lent.states-long)
      (every-same s.threads _ _ (alone-by-place st))
      ∙ held-once (blocks s) s.threads (in_state states st) (λ t. test (call_of calls t)) (hand_place s calls)
      (λ t m e. place_inside s _ _ (h.inside t m e).0 (h.inside t m e).1)
      ∙ sym (every-place s s.levels _)
      ∙ every-same s.levels _ _ (λ l i.
      every-same (count s l) _ _ (λ b k.
      ap (λ (n : ℕ). eqb n (bit (eqb (state_at s states l b) st))) (sym (holders-by-place l b k))))

  -- where each is alone, the calls are not more than the blocks
  pub alone-fewer :
      (st : ℕ) → every s.threads (λ t. hand_alone s states calls st test (call_of calls t)) ≡ true →
      tally s.threads (λ t. test (call_of calls t)) ≤ tally (length states) (in_state states st)
  alone-fewer st e =
      rw h.lent.states-long
      (held-fewer (blocks s) s.threads (in_state states st) (λ t. test (call_of calls t)) (hand_place s calls)
      (λ t m e. place_inside s _ _ (h.inside t m e).0 (h.inside t m e).1)
      (sym (every-same s.threads _ _ (alone-by-place st)) ∙ e))
