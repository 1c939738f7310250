-- The queue while it is gone through: those of its first i members that pass stay, in their order, and are counted.
-- Assumes nothing.
use mathlib.Core.Path.{◌≡◌, sym, ◌∙◌, ap}
use mathlib.Core.Bool.{Bool, true, false}
use mathlib.Core.List.{List}
use Prim.Native.Nat.{ℕ, ◌+◌, ◌-◌, ◌≤◌, ◌<◌}
use native.Mathlib.Omega.{arith}
use lib.ListN.{length, get_or, set, length-append}
use Rattle.laws.specs.Lists.{keep}
use Rattle.rules.specs.Tables.{queue_of, put_queue}
use Rattle.facts.specs.Queue.{QueueReady}
use Rattle.facts.specs.Sift.{passed, passed_none, passed-all, passed-most, passed-pass, passed-fail, sifted_queue, sifted_queue-none, sifted_queue-at, sifted_queue-fail, sifted_queue-pass, sifted_queue-all, length-sifted_queue}

pub record Staying (f : ℕ → Bool) (queue : List ℕ) (i : ℕ) (queue_now : List ℕ) (kept : ℕ) : Type 0 where
  pub places : queue_now ≡ sifted_queue f i queue
  pub number : kept ≡ length (passed f i queue)

pub staying-none : (f : ℕ → Bool) (queue : List ℕ) → 1 ≤ length queue → Staying f queue 0 queue 0
staying-none f queue h =
    record { places = sym (sifted_queue-none f queue h); number = sym (ap length (passed_none f queue)) }

module _
    {f : ℕ → Bool} {queue : List ℕ} {i : ℕ} {queue_now : List ℕ} {kept : ℕ} (r : QueueReady queue)
    (a : Staying f queue i queue_now kept)
  where
    pub staying-length : i ≤ get_or queue 0 0 → length queue_now ≡ length queue
    staying-length h = ap length a.places ∙ length-sifted_queue f i queue (omega arith) h

    pub staying-most : kept ≤ i
    staying-most = omega (arith, a.number, passed-most f i queue)

    pub staying-at : i < get_or queue 0 0 → get_or queue_now (i + 1) 0 ≡ get_or queue (i + 1) 0
    staying-at h = rw a.places (sifted_queue-at f i queue (omega arith) h)

    pub staying-all :
        i ≡ get_or queue 0 0 → set queue_now 0 kept ≡ put_queue (length queue - 1) (keep f (queue_of queue))
    staying-all e = rw (a.places, a.number, passed-all f i queue (omega arith), e) (sifted_queue-all f queue r)

    pub staying-pass :
        i < get_or queue 0 0 → f (get_or queue_now (i + 1) 0) ≡ true →
        Staying f queue (i + 1) (set (set queue_now (i + 1) 0) (kept + 1) (get_or queue_now (i + 1) 0)) (kept + 1)
    staying-pass h e =
        let fits : get_or queue 0 0 + 1 ≤ length queue = omega arith in
        let p = rw (staying-at h) at e in
        record {
          places = rw (staying-at h, a.places, a.number) (sifted_queue-pass f i queue fits h p);
          number = rw (a.number, passed-pass f i queue fits h p, length-append);
        }

    pub staying-fail :
        i < get_or queue 0 0 → f (get_or queue_now (i + 1) 0) ≡ false → Staying f queue (i + 1) (set queue_now (i + 1) 0) kept
    staying-fail h e =
        let fits : get_or queue 0 0 + 1 ≤ length queue = omega arith in
        let p = rw (staying-at h) at e in
        record {
          places = rw a.places (sifted_queue-fail f i queue fits h p);
          number = rw (passed-fail f i queue fits h p) a.number;
        }
