-- What valid tables give to a step beyond the block in hand: the first block listed, the parent of an existing part, the stage left over.
-- Assumes nothing.
use Rattle.std.specs.Prelude.{◌≡◌, refl, Bool, true, false, not, ◌&&◌, ◌||◌, ◌⊎◌, List, ◌∷◌, ℕ, ◌+◌, ◌*◌, ◌-◌, ◌/◌, ◌%◌, ◌≤◌, ◌<◌, length, get_or, leb, ltb, eqb}
use Rattle.std.proofs.Common.{sym, ◌∙◌, ap, ap₂, inl, inr, mod-lt, div-lt_iff_lt-mul, arith, leb-true, eqb-true, eq-eqb, ne_eqb}
use Rattle.std.specs.Bool.{beq}
use Rattle.std.proofs.Math.Nat.{div-add-mod}
use Rattle.std.proofs.lemmas.Bool.{eqb-false, not-true}
use Rattle.laws.specs.Tests.{bit, every, every-at, both, either}
use Rattle.laws.specs.Lists.{times}
use Rattle.shape.specs.declared.Shape.{Shape}
use Rattle.shape.specs.Limits.{parts}
use Rattle.shape.specs.Blocks.{count}
use Rattle.shape.specs.Laws.{parts-pos, count_next}
use Rattle.rules.specs.declared.Device.{Device}
use Rattle.rules.specs.declared.Call.{Call}
use Rattle.rules.specs.Numbers.{FREE, DIVIDED, NOEXIST, FREEING, CLOSED, ASKED, FOUND, DIVIDING, RELEASING, WAITING}
use Rattle.rules.specs.Tables.{state_at, free_list, call_of}
use Rattle.rules.specs.Valid.{fields_used, parts_exist, free_listed, running_ready}
use Rattle.rules.specs.Steps.{first_buddy}
use Rattle.rules.specs.Moves.{may_move}
use Rattle.facts.specs.Given.{member-inside}

-- two tests that agree are one
pub alike : (x y : Bool) → beq x y ≡ true → x ≡ y
alike true true e = refl
alike true false e = sym e
alike false true e = e
alike false false e = refl

-- what stands first in a list stands in it at least once
times-first : (b : ℕ) (bs : List ℕ) → 1 ≤ times b (b ∷ bs)
unfolding times
times-first b bs = omega (arith, ap bit (eq-eqb b b refl))

-- the first block of a level's list is FREE
pub listed_free :
    (s : Shape) (states lists : List ℕ) → free_listed s states lists ≡ true → (l b : ℕ) (bs : List ℕ) → l < s.levels →
    free_list s lists l ≡ b ∷ bs → state_at s states l b ≡ FREE
unfolding free_listed
listed_free s states lists e l b bs h q =
    eqb-true _ _ (once (eqb (state_at s states l b) FREE) (ap (times b) (sym q) ∙ counted))
  where
    inside : b < count s l
    inside = rw q at (member-inside s states lists e l 0 h (rw q (omega arith)))

    here : every (count s l) (λ b. eqb (times b (free_list s lists l)) (bit (eqb (state_at s states l b) FREE))) ≡ true
    here =
        (both (every (length (free_list s lists l)) (λ i. ltb (get_or (free_list s lists l) i 0) (count s l))) _
        (every-at s.levels _ e l h)).1

    counted : times b (free_list s lists l) ≡ bit (eqb (state_at s states l b) FREE)
    counted = eqb-true _ _ (every-at (count s l) _ here b inside)

    once : (f : Bool) → times b (b ∷ bs) ≡ bit f → f ≡ true
    once true r = refl
    once false r = absurd (omega (arith, times-first b bs))

-- a block with a part that exists is DIVIDED
pub parent-divided :
    (s : Shape) (states : List ℕ) → parts_exist s states ≡ true → (l b j : ℕ) → l + 1 < s.levels → b < count s l →
    j < parts s → (state_at s states (l + 1) (parts s * b + j) ≡ NOEXIST → ⊥) → state_at s states l b ≡ DIVIDED
unfolding parts_exist
parent-divided s states e l b j h k i n =
    eqb-true _ _
    (sym (alike _ _ (every-at (parts s) _ (every-at (count s l) _ (every-at (s.levels - 1) _ e l (omega arith)) b k) j i))
    ∙ ap not (ne_eqb _ _ n))

-- a block that merges: its parent is DIVIDED, and each part, itself FREEING and its buddies FREE, may leave
pub merging :
    (s : Shape) (states : List ℕ) → parts_exist s states ≡ true → (l m b : ℕ) → m ≡ l + 1 → m < s.levels →
    b < count s m → state_at s states m b ≡ FREEING →
    every (parts s) (λ j. eqb (first_buddy s b + j) b || eqb (state_at s states m (first_buddy s b + j)) FREE) ≡ true →
    (state_at s states l (b / parts s) ≡ DIVIDED)
    × ((j : ℕ) → j < parts s → may_move (state_at s states m (first_buddy s b + j)) NOEXIST ≡ true)
merging s states p l m b q h k e f = (
  parent-divided s states p l (b / parts s) (b % parts s) (omega arith)
      ((div-lt_iff_lt-mul (parts-pos s)).1 (omega (arith, ap (count s) q, count_next s l)))
      (mod-lt b (parts-pos s))
      (λ n. omega (arith, e, own ∙ n)),
  λ j i. leaves j (either (eqb (first_buddy s b + j) b) _ (every-at (parts s) _ f j i)),
)
  where
    own : state_at s states m b ≡ state_at s states (l + 1) (parts s * (b / parts s) + b % parts s)
    own = ap₂ (λ n k. state_at s states n k) q (sym (div-add-mod b (parts s)))

    leaves :
        (j : ℕ) →
        (eqb (first_buddy s b + j) b ≡ true) ⊎ (eqb (state_at s states m (first_buddy s b + j)) FREE ≡ true) →
        may_move (state_at s states m (first_buddy s b + j)) NOEXIST ≡ true
    leaves j (inl g) = rw (eqb-true (first_buddy s b + j) b g, e) refl
    leaves j (inr g) = rw (eqb-true (state_at s states m (first_buddy s b + j)) FREE g) refl

-- the thread that runs isn't blocked
pub running-ready :
    (s : Shape) (calls : List ℕ) (device : Device) → running_ready s calls device ≡ true → (t : ℕ) →
    device.running ≡ t + 1 → (call_of calls t).stage ≡ WAITING → ⊥
unfolding running_ready
running-ready s calls device e t q w = go (either (eqb device.running 0) _ e)
  where
    before : device.running - 1 ≡ t
    before = omega arith

    go :
        (eqb device.running 0 ≡ true)
        ⊎ ((leb device.running s.threads && not (eqb (call_of calls (device.running - 1)).stage WAITING)) ≡ true) →
        ⊥
    go (inl z) = omega (arith, eqb-true device.running 0 z)
    go (inr r) =
        eqb-false (call_of calls (device.running - 1)).stage WAITING
        (not-true _ (both (leb device.running s.threads) _ r).1)
        (rw before w)

stage-known : (c : Call) → fields_used c ≡ true → c.stage ≤ WAITING
unfolding fields_used
stage-known c e =
    let f1 = both _ _ e in
    let f2 = both _ _ f1.0 in
    let f3 = both _ _ f2.0 in
    let f4 = both _ _ f3.0 in
    let f5 = both _ _ f4.0 in
    leb-true c.stage WAITING (both _ _ f5.0).0

-- a call that is open, and neither asked, found, dividing nor waiting, is releasing
pub left_over :
    (c : Call) → fields_used c ≡ true → (c.stage ≡ CLOSED → ⊥) → (c.stage ≡ ASKED → ⊥) → (c.stage ≡ FOUND → ⊥) →
    (c.stage ≡ DIVIDING → ⊥) → (c.stage ≡ WAITING → ⊥) → c.stage ≡ RELEASING
left_over c e n1 n2 n3 n4 n5 = omega (arith, stage-known c e)
