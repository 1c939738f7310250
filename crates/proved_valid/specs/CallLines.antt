-- What is said of one call by itself, for the calls that steps leave.
-- Assumes nothing.
use Rattle.std.specs.Prelude.{◌≡◌, refl, Bool, false, not, ◌&&◌, ◌||◌, ℕ, ◌+◌, ◌≤◌, ◌<◌, leb, ltb, eqb}
use Rattle.std.proofs.Common.{ap, true≢false, arith}
use Rattle.std.proofs.Math.Bool.{true}
use Rattle.std.proofs.lemmas.Bool.{false≢true}
use borrow.Author.Tests.{le-leb, leb-true, lt-ltb, eqb-true, eq-eqb, ne_eqb}
use Rattle.laws.specs.Tests.{both, both_of}
use Rattle.shape.specs.declared.Shape.{Shape}
use Rattle.shape.specs.Blocks.{count, level_for}
use Rattle.shape.specs.Time.{ticks, longest}
use Rattle.rules.specs.declared.Call.{Call}
use Rattle.rules.specs.Numbers.{CLOSED, ASKED, FOUND, DIVIDING, RELEASING, WAITING, NEVER, TIMED}
use Rattle.rules.specs.Valid.{uses_wait, uses_size, uses_deadline, uses_level, uses_block, fields_used, hand_inside, target_kept, size_kept, found_kept, deadline_kept, may_wait, call_kept}
use Rattle.rules.specs.Steps.{closed, holding, moved}
use Rattle.facts.specs.Given.{CallFacts}

pub call-kept-of : (s : Shape) (clock : ℕ) (c : Call) → CallFacts s clock c → call_kept s clock c ≡ true
unfolding call_kept
call-kept-of s clock c f =
    both_of _ _
    (both_of _ _
    (both_of _ _ (both_of _ _ (both_of _ _ (both_of _ _ f.fields f.hand) f.target) f.size) f.found)
    f.deadline)
    f.waits

-- a stage tells whether it uses the wait
pub uses-wait : (c : Call) (n : ℕ) → c.stage ≡ n → uses_wait c ≡ (eqb n ASKED || eqb n WAITING || eqb n FOUND)
uses-wait c n e = ap (λ (k : ℕ). eqb k ASKED || eqb k WAITING || eqb k FOUND) e

-- a call that asks: its kind of wait, its deadline and its size
pub record Asks (s : Shape) (clock : ℕ) (c : Call) : Type 0 where
  pub kind : c.wait ≤ TIMED
  pub untimed : (eqb c.wait TIMED || eqb c.deadline 0) ≡ true
  pub unheld : c.block ≡ 0
  pub size : c.size ≤ s.top_size
  pub soon : c.wait ≡ TIMED → c.deadline ≤ clock + ticks longest

unfound : (a b : Bool) → (a || b) ≡ true → a ≡ false → b ≡ true
unfound true b e f = absurd (true≢false f)
unfound false b e f = e

where-used : (w t z : Bool) → ((w && t) || z) ≡ true → w ≡ true → (t || z) ≡ true
where-used true t z e f = e
where-used false t z e f = absurd (false≢true f)

in-time : (w t z m : Bool) → (not (w && t) || (z && m)) ≡ true → w ≡ true → t ≡ true → z ≡ true
in-time true true z m e f g = (both z m e).0
in-time true false z m e f g = absurd (false≢true g)
in-time false t z m e f g = absurd (false≢true f)

-- which fields hold zero, line by line
pub record Fields (c : Call) : Type 0 where
  pub kind : leb c.wait TIMED ≡ true
  pub size : (uses_size c || eqb c.size 0) ≡ true
  pub wait : (uses_wait c || eqb c.wait 0) ≡ true
  pub deadline : (uses_deadline c || eqb c.deadline 0) ≡ true
  pub level : (uses_level c || eqb c.level 0) ≡ true
  pub block : (uses_block c || eqb c.block 0) ≡ true

pub fields : (c : Call) → fields_used c ≡ true → Fields c
unfolding fields_used
fields c e =
    let f1 = both _ (uses_block c || eqb c.block 0) e in
    let f2 = both _ (uses_level c || eqb c.level 0) f1.0 in
    let f3 = both _ (uses_deadline c || eqb c.deadline 0) f2.0 in
    let f4 = both _ (uses_wait c || eqb c.wait 0) f3.0 in
    let f5 = both _ (uses_size c || eqb c.size 0) f4.0 in
    record {
      kind = (both (leb c.stage WAITING) (leb c.wait TIMED) f5.0).1;
      size = f5.1;
      wait = f4.1;
      deadline = f3.1;
      level = f2.1;
      block = f1.1;
    }

-- so a call that is not open has no other contents than these
pub closed_is : (c : Call) → fields_used c ≡ true → c.stage ≡ CLOSED → c ≡ closed
closed_is c f e =
    zeros e (eqb-true _ _ (rw e at k.size)) (eqb-true _ _ (rw e at k.wait)) (eqb-true _ _ (rw e at k.deadline))
    (eqb-true _ _ (rw e at k.level))
    (eqb-true _ _ (rw e at k.block))
  where
    k : Fields c
    k = fields c f

    zeros :
        c.stage ≡ CLOSED → c.size ≡ 0 → c.wait ≡ 0 → c.deadline ≡ 0 → c.level ≡ 0 → c.block ≡ 0 →
        ◌≡◌ {A = Call}
        (record {
          stage = c.stage;
          size = c.size;
          wait = c.wait;
          deadline = c.deadline;
          level = c.level;
          block = c.block;
        })
        closed
    zeros p q r u v w = rw (p, q, r, u, v, w)

-- what is kept of a call whose stage uses the wait
pub asks : (s : Shape) (clock : ℕ) (c : Call) → CallFacts s clock c → uses_wait c ≡ true → uses_block c ≡ false → Asks s clock c
unfolding size_kept deadline_kept
asks s clock c f w n =
    record {
      kind = leb-true _ _ (fields c f.fields).kind;
      untimed =
          where-used (uses_wait c) (eqb c.wait TIMED) (eqb c.deadline 0) (fields c f.fields).deadline w;
      unheld = eqb-true _ _ (unfound (uses_block c) (eqb c.block 0) (fields c f.fields).block n);
      size = leb-true _ _ f.size;
      soon = λ q. leb-true _ _ (in-time (uses_wait c) (eqb c.wait TIMED) _ _ f.deadline w (eq-eqb _ _ q));
    }

module _ (s : Shape) (clock : ℕ) where
  pub closed-kept : call_kept s clock closed ≡ true
  unfolding call_kept fields_used hand_inside target_kept size_kept found_kept deadline_kept may_wait
  closed-kept = rw (le-leb 0 s.top_size (omega arith))

  -- a call with a block in hand that may be split on
  pub dividing-kept :
      (size l b : ℕ) → l < s.levels → b < count s l → l ≤ level_for s size → size ≤ s.top_size →
      call_kept s clock (holding DIVIDING size l b) ≡ true
  unfolding call_kept fields_used hand_inside target_kept size_kept found_kept deadline_kept may_wait
  dividing-kept size l b h k m n = rw (lt-ltb _ _ h, lt-ltb _ _ k, le-leb _ _ m, le-leb _ _ n)

  -- and one with a block that is given back
  pub releasing-kept :
      (l b : ℕ) → l < s.levels → b < count s l → call_kept s clock (holding RELEASING 0 l b) ≡ true
  unfolding call_kept fields_used hand_inside target_kept size_kept found_kept deadline_kept may_wait
  releasing-kept l b h k = rw (lt-ltb _ _ h, lt-ltb _ _ k, le-leb 0 s.top_size (omega arith))

-- a call that asks, at each stage that it may be at
module _ (s : Shape) (clock : ℕ) (c : Call) (a : Asks s clock c) where
  soon-enough :
      (m : Bool) → (c.wait ≡ TIMED → m ≡ true) →
      (not (eqb c.wait TIMED) || (leb c.deadline (clock + ticks longest) && m)) ≡ true
  soon-enough m e = go (eqb c.wait TIMED) refl
    where
      go : (t : Bool) → eqb c.wait TIMED ≡ t → (not t || (leb c.deadline (clock + ticks longest) && m)) ≡ true
      go false q = refl
      go true q = both_of _ _ (le-leb _ _ (a.soon (eqb-true _ _ q))) (e (eqb-true _ _ q))

  pub asked-kept : call_kept s clock (moved c ASKED 0) ≡ true
  unfolding call_kept fields_used hand_inside target_kept size_kept found_kept deadline_kept may_wait
  asked-kept = rw (le-leb _ _ a.kind, a.untimed, eq-eqb _ _ a.unheld, le-leb _ _ a.size, soon-enough true (λ _. refl))

  pub found-kept : (l : ℕ) → l ≤ level_for s c.size → call_kept s clock (moved c FOUND l) ≡ true
  unfolding call_kept fields_used hand_inside target_kept size_kept found_kept deadline_kept may_wait
  found-kept l h =
      rw (
        le-leb _ _ a.kind,
        a.untimed,
        eq-eqb _ _ a.unheld,
        le-leb _ _ a.size,
        le-leb _ _ h,
        soon-enough true (λ _. refl),
      )

  pub waiting_kept :
      (c.wait ≡ NEVER → ⊥) → (c.wait ≡ TIMED → clock < c.deadline) → call_kept s clock (moved c WAITING 0) ≡ true
  unfolding call_kept fields_used hand_inside target_kept size_kept found_kept deadline_kept may_wait
  waiting_kept n d =
      rw (
        le-leb _ _ a.kind,
        a.untimed,
        eq-eqb _ _ a.unheld,
        le-leb _ _ a.size,
        ne_eqb _ _ n,
        soon-enough (ltb clock c.deadline) (λ q. lt-ltb _ _ (d q)),
      )
