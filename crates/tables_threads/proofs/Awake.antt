-- The table of calls while the queue is gone through: those of its first i members that pass are awake, and counted.
-- Assumes nothing.
use mathlib.Core.Path.{◌≡◌, sym, ◌∙◌, ap}
use mathlib.Core.Bool.{Bool, true, false}
use mathlib.Core.List.{List}
use Prim.Native.Nat.{ℕ, ◌+◌, ◌*◌, ◌≤◌, ◌<◌}
use native.Mathlib.Omega.{arith}
use lib.ListN.{length, get_or, set, length-append}
use Rattle.laws.specs.Lists.{keep}
use Rattle.rules.specs.Numbers.{ASKED, CELLS}
use Rattle.rules.specs.Tables.{queue_of}
use Rattle.rules.specs.Steps.{wake}
use Rattle.rules.specs.Calls.{due}
use Rattle.facts.specs.Sift.{passed, passed_none, passed-all, passed-most, passed-pass, passed-fail}
use Rattle.facts.specs.Wake.{length-wake, wake-none, wake-more, due-wake}

pub record Awake (f : ℕ → Bool) (calls queue : List ℕ) (i : ℕ) (calls_now : List ℕ) (woken : ℕ) : Type 0 where
  pub table : calls_now ≡ wake calls (passed f i queue)
  pub number : woken ≡ length (passed f i queue)

pub awake-none : (f : ℕ → Bool) (calls queue : List ℕ) → Awake f calls queue 0 calls 0
awake-none f calls queue =
    record {
      table = sym (ap (wake calls) (passed_none f queue) ∙ wake-none calls);
      number = sym (ap length (passed_none f queue));
    }

module _ {f : ℕ → Bool} {calls queue : List ℕ} {i : ℕ} {calls_now : List ℕ} {woken : ℕ} (a : Awake f calls queue i calls_now woken) where
  pub awake-length : length calls_now ≡ length calls
  awake-length = ap length a.table ∙ length-wake calls (passed f i queue)

  pub awake-most : woken ≤ i
  awake-most = omega (arith, a.number, passed-most f i queue)

  pub awake-due : (clock t : ℕ) → due calls_now clock t ≡ due calls clock t
  awake-due clock t = rw a.table (due-wake calls (passed f i queue) clock t)

  pub awake-all : get_or queue 0 0 ≤ i → (calls_now ≡ wake calls (keep f (queue_of queue))) × (woken ≡ length (keep f (queue_of queue)))
  awake-all h = (a.table ∙ ap (wake calls) (passed-all f i queue h), a.number ∙ ap length (passed-all f i queue h))

  pub awake-pass :
      get_or queue 0 0 + 1 ≤ length queue → i < get_or queue 0 0 → f (get_or queue (i + 1) 0) ≡ true →
      Awake f calls queue (i + 1) (set calls_now (CELLS * get_or queue (i + 1) 0) ASKED) (woken + 1)
  awake-pass fits h e =
      let p = passed-pass f i queue fits h e in
      record { table = rw (a.table, p, wake-more); number = rw (a.number, p, length-append) }

  pub awake-fail :
      get_or queue 0 0 + 1 ≤ length queue → i < get_or queue 0 0 → f (get_or queue (i + 1) 0) ≡ false →
      Awake f calls queue (i + 1) calls_now woken
  awake-fail fits h e =
      let p = passed-fail f i queue fits h e in
      record { table = rw p a.table; number = rw p a.number }
