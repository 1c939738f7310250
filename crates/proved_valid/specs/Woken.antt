-- Threads that wake: each one's call is asked and else as it was, and the calls of all others stay.
-- Assumes nothing.
use Rattle.std.specs.Prelude.{◌≡◌, Bool, not, ◌&&◌, ◌||◌, List, [], ◌∷◌, ℕ, zero, suc, ◌+◌, ◌*◌, ◌≤◌, ◌<◌, length, get_or, set, leb}
use Rattle.std.proofs.Math.Path.{refl}
use Rattle.std.proofs.Common.{◌∙◌, ap, add-zero, arith, length-set, get_or-set_same, get_or-set_other}
use Rattle.std.proofs.Math.Bool.{true, false}
use Rattle.std.proofs.Math.Decide.{ℕ_discrete}
use Rattle.std.proofs.Math.Dec.{ltb, eqb}
use borrow.Author.Tests.{leb-true, le-leb, lt-ltb, eqb-true, eq-eqb, ne_eqb}
use Rattle.laws.specs.Tests.{bit, both, both_of}
use Rattle.laws.specs.Lists.{times}
use Rattle.shape.specs.declared.Shape.{Shape}
use Rattle.shape.specs.Time.{ticks, longest}
use Rattle.rules.specs.declared.Call.{Call}
use Rattle.rules.specs.Numbers.{ASKED, WAITING, TIMED, CELLS}
use Rattle.rules.specs.Tables.{call_of}
use Rattle.rules.specs.Valid.{uses_wait, uses_deadline, deadline_kept, call_kept}
use Rattle.rules.specs.Steps.{wake}
use Rattle.facts.specs.Given.{CallFacts}
use Rattle.facts.specs.Call.{call_of-same}
use Rattle.facts.specs.Wake.{wake-cell}
use Rattle.laws.specs.Changes.{times-cons}
use Rattle.facts.specs.Running.{uses-block}
use Rattle.proved_valid.specs.CallLines.{Asks, asks, call-kept-of, fields, uses-wait, asked-kept}

-- the call of a thread that wakes
abbrev pub woken : Call → Call
woken c =
    record { stage = ASKED; size = c.size; wait = c.wait; deadline = c.deadline; level = c.level; block = c.block }

-- the stage of a thread that isn't among them, and of one that is
stage-stays : (calls ts : List ℕ) (t : ℕ) → times t ts ≡ 0 → get_or (wake calls ts) (CELLS * t) 0 ≡ get_or calls (CELLS * t) 0
unfolding wake
stage-stays calls [] t e = refl
stage-stays calls (u ∷ ts) t e = go (ℕ_discrete t u) (stage-stays (set calls (CELLS * u) ASKED) ts t)
  where
    go :
        Dec (t ≡ u) →
        (times t ts ≡ 0 →
        get_or (wake (set calls (CELLS * u) ASKED) ts) (CELLS * t) 0 ≡ get_or (set calls (CELLS * u) ASKED) (CELLS * t) 0) →
        get_or (wake (set calls (CELLS * u) ASKED) ts) (CELLS * t) 0 ≡ get_or calls (CELLS * t) 0
    go (yes q) below = absurd (omega (arith, times-cons t u ts, ap bit (eq-eqb t u q)))
    go (no q) below =
        below (omega (arith, times-cons t u ts))
        ∙ get_or-set_other calls (CELLS * u) (CELLS * t) ASKED 0 (omega arith)

stage-asked :
    (calls ts : List ℕ) (t : ℕ) → CELLS * t < length calls → 1 ≤ times t ts → get_or (wake calls ts) (CELLS * t) 0 ≡ ASKED
unfolding wake times
stage-asked calls [] t h k = absurd (omega arith)
stage-asked calls (u ∷ ts) t h k =
    go (times t ts) refl (stage-asked (set calls (CELLS * u) ASKED) ts t (simp length-set h)) (ℕ_discrete t u)
  where
    go :
        (n : ℕ) → times t ts ≡ n → (1 ≤ times t ts → get_or (wake (set calls (CELLS * u) ASKED) ts) (CELLS * t) 0 ≡ ASKED) →
        Dec (t ≡ u) → get_or (wake (set calls (CELLS * u) ASKED) ts) (CELLS * t) 0 ≡ ASKED
    go (suc n) e below q = below (omega arith)
    go zero e below (no q) = absurd (omega (arith, times-cons t u ts, ap bit (ne_eqb t u q)))
    go zero e below (yes q) =
        stage-stays (set calls (CELLS * u) ASKED) ts t e
        ∙ rw q (get_or-set_same calls (CELLS * u) ASKED 0 (omega arith))

pub wake-other : (calls ts : List ℕ) (t : ℕ) → times t ts ≡ 0 → call_of (wake calls ts) t ≡ call_of calls t
wake-other calls ts t e = call_of-same (wake calls ts) calls t t at
  where
    at : (k : ℕ) → k < CELLS → get_or (wake calls ts) (CELLS * t + k) 0 ≡ get_or calls (CELLS * t + k) 0
    at zero h = rw add-zero (stage-stays calls ts t e)
    at (suc k) h = wake-cell calls ts t (suc k) (omega arith) h

pub wake-own :
    (calls ts : List ℕ) (t : ℕ) → CELLS * t < length calls → 1 ≤ times t ts → call_of (wake calls ts) t ≡ woken (call_of calls t)
unfolding call_of
wake-own calls ts t h k =
    rw (
      stage-asked calls ts t h k,
      wake-cell calls ts t 1 (omega arith) (omega arith),
      wake-cell calls ts t 2 (omega arith) (omega arith),
      wake-cell calls ts t 3 (omega arith) (omega arith),
      wake-cell calls ts t 4 (omega arith) (omega arith),
      wake-cell calls ts t 5 (omega arith) (omega arith),
    )

-- a call that waits is kept when it wakes, at this clock or a later one
module _ (s : Shape) (clock later : ℕ) (c : Call) (f : CallFacts s clock c) (h : clock ≤ later) where
  level-unused : c.stage ≡ WAITING → c.level ≡ 0
  level-unused e = eqb-true _ _ (rw e at (fields c f.fields).level)

  pub woken-kept : c.stage ≡ WAITING → call_kept s later (woken c) ≡ true
  woken-kept e =
      rw (level-unused e)
      (asked-kept s later c
      (record {
        kind = a.kind;
        untimed = a.untimed;
        unheld = a.unheld;
        size = a.size;
        soon = λ q. omega (arith, a.soon q);
      }))
    where
      a : Asks s clock c
      a = asks s clock c f (uses-wait c WAITING e) (uses-block c WAITING e)

  -- and so is any call whose deadline doesn't pass
  pub later-kept : (c.stage ≡ WAITING → c.wait ≡ TIMED → later < c.deadline) → call_kept s later c ≡ true
  unfolding deadline_kept
  later-kept k =
      call-kept-of s later c
      (record {
        fields = f.fields;
        hand = f.hand;
        target = f.target;
        size = f.size;
        found = f.found;
        deadline = in-time (uses_deadline c) (eqb c.stage WAITING) refl refl f.deadline;
        waits = f.waits;
      })
    where
      in-time :
          (u w : Bool) → uses_deadline c ≡ u → eqb c.stage WAITING ≡ w →
          (not u || (leb c.deadline (clock + ticks longest) && (not w || ltb clock c.deadline))) ≡ true →
          (not u || (leb c.deadline (later + ticks longest) && (not w || ltb later c.deadline))) ≡ true
      in-time false w p q e = refl
      in-time true w p q e =
          let d = both (leb c.deadline (clock + ticks longest)) _ e in
          both_of _ _
          (le-leb c.deadline (later + ticks longest)
          (omega (arith, leb-true c.deadline (clock + ticks longest) d.0)))
          (still w q)
        where
          still : (w : Bool) → eqb c.stage WAITING ≡ w → (not w || ltb later c.deadline) ≡ true
          still false q = refl
          still true q = lt-ltb _ _ (k (eqb-true _ _ q) (eqb-true _ _ (both (uses_wait c) (eqb c.wait TIMED) p).1))
