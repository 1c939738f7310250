-- Ask, switch and tick: the tables stay kept.
-- Assumes nothing.
use Rattle.std.specs.Prelude.{Option, None, Some, ◌≡◌, refl, true, false, List, ℕ, ◌+◌, ◌≤◌, ◌<◌, leb, eqb}
use Rattle.std.proofs.Common.{sym, ◌∙◌, arith, le-leb, ltb-true, eq-eqb}
use Rattle.std.proofs.lemmas.Bool.{false≢true}
use Rattle.laws.specs.Tests.{both, both_of}
use Rattle.shape.specs.declared.Shape.{Shape}
use Rattle.shape.specs.declared.time.Wait.{Wait}
use Rattle.shape.specs.declared.time.Wait.TheVariants.{Never, Forever, Timed}
use Rattle.shape.specs.Time.{ticks, longest, ticks_of}
use Rattle.rules.specs.declared.Call.{Call}
use Rattle.rules.specs.Numbers.{CLOSED, WAITING, TIMED}
use Rattle.rules.specs.Tables.{State, call_of, lent}
use Rattle.rules.specs.Valid.{uses_deadline, uses_block, fields_used, hand_inside, target_kept, size_kept, found_kept, deadline_kept, may_wait, call_kept}
use Rattle.rules.specs.Steps.{only_call}
use Rattle.rules.specs.Calls.{asked_call, only_device, due}
use Rattle.facts.specs.Given.{call_facts}
use Rattle.facts.specs.Running.{Running, uses-block}
use Rattle.rules.specs.Calls.{ticked}
use Rattle.proved_valid.specs.Lines.{Facts}
use Rattle.laws.specs.Changes.{implied}
use Rattle.proved_valid.specs.OneCall.{running-of}
use Rattle.proved_valid.specs.Runs.{only-call}
use Rattle.proved_valid.specs.Wakes.{wakes-kept}

-- the call that an ask opens
new-kept :
    (s : Shape) (clock size : ℕ) (w : Option Wait) → size ≤ s.top_size → ticks_of w ≤ ticks longest →
    call_kept s clock (asked_call clock size w) ≡ true
unfolding asked_call call_kept fields_used hand_inside target_kept size_kept found_kept deadline_kept may_wait
new-kept s clock size (Some Never) h k = rw (le-leb _ _ h)
new-kept s clock size (Some Forever) h k = rw (le-leb _ _ h)
new-kept s clock size (Some (Timed n)) h k = rw (le-leb _ _ h, le-leb (clock + n.0) (clock + ticks longest) (omega arith))
new-kept s clock size None h k = rw (le-leb _ _ h)

new-idle : (clock size : ℕ) (w : Option Wait) → uses_block (asked_call clock size w) ≡ false
unfolding asked_call
new-idle clock size (Some Never) = refl
new-idle clock size (Some Forever) = refl
new-idle clock size (Some (Timed n)) = refl
new-idle clock size None = refl

new-ready : (clock size : ℕ) (w : Option Wait) → (asked_call clock size w).stage ≡ WAITING → ⊥
unfolding asked_call
new-ready clock size (Some Never) e = omega arith
new-ready clock size (Some Forever) e = omega arith
new-ready clock size (Some (Timed n)) e = omega arith
new-ready clock size None e = omega arith

pub ask-kept :
    {s : Shape} {T : State} {t : ℕ} {c : Call} → Running s T t c → c.stage ≡ CLOSED → (size : ℕ) (w : Option Wait) →
    size ≤ s.top_size → ticks_of w ≤ ticks longest → Facts s (only_call T t (asked_call T.threads.device.clock size w))
ask-kept {s} {T} {t} {c} g o size w h k =
    only-call g (asked_call T.threads.device.clock size w) (uses-block c CLOSED o) (new-idle T.threads.device.clock size w)
    (new-ready T.threads.device.clock size w)
    (new-kept s T.threads.device.clock size w h k)

-- another thread runs, one that isn't blocked
pub switch_kept :
    (s : Shape) (T : State) (t : ℕ) → Facts s T → t < s.threads → ((call_of T.threads.calls t).stage ≡ WAITING → ⊥) →
    Facts s (only_device T T.threads.device.clock (t + 1))
switch_kept s T t f h w =
    record {
      pool = f.pool;
      threads =
          record {
            long = f.threads.long;
            queue_long = f.threads.queue_long;
            kept = f.threads.kept;
            ends = f.threads.ends;
            waiters = f.threads.waiters;
            running = running-of s T.threads.calls (record { clock = T.threads.device.clock; running = t + 1 }) t refl h w;
          };
      hands = f.hands;
    }

-- while a thread waits for a time, that lies above the clock
deadline-above :
    (clock : ℕ) (c : Call) → deadline_kept clock c ≡ true → c.stage ≡ WAITING → c.wait ≡ TIMED → clock < c.deadline
unfolding deadline_kept
deadline-above clock c k w d =
    ltb-true _ _
    (implied (eqb c.stage WAITING) _
    (both (leb c.deadline (clock + ticks longest)) _ (implied (uses_deadline c) _ k timed)).1
    (eq-eqb _ _ w))
  where
    timed : uses_deadline c ≡ true
    timed = rw (w, d)

not-due :
    (calls : List ℕ) (clock t : ℕ) → (call_of calls t).wait ≡ TIMED → due calls clock t ≡ false →
    (call_of calls t).deadline ≡ clock → ⊥
unfolding due
not-due calls clock t d n q = false≢true (sym n ∙ both_of _ _ (eq-eqb _ _ d) (eq-eqb _ _ q))

-- a thread whose deadline comes wakes; the deadlines of the others lie above the new clock
pub tick-kept : (s : Shape) (T : State) → Facts s T → Facts s (lent T.pool (ticked s T.threads))
tick-kept s T f = wakes-kept f (due T.threads.calls (T.threads.device.clock + 1)) (T.threads.device.clock + 1) (omega arith) above
  where
    soonest :
        (t : ℕ) → t < s.threads → (call_of T.threads.calls t).stage ≡ WAITING → (call_of T.threads.calls t).wait ≡ TIMED →
        T.threads.device.clock < (call_of T.threads.calls t).deadline
    soonest t h w d =
        deadline-above T.threads.device.clock (call_of T.threads.calls t)
        (call_facts s T.threads.device.clock T.threads.calls f.threads.kept t h).deadline
        w
        d

    above :
        (t : ℕ) → t < s.threads → (call_of T.threads.calls t).stage ≡ WAITING → (call_of T.threads.calls t).wait ≡ TIMED →
        due T.threads.calls (T.threads.device.clock + 1) t ≡ false → T.threads.device.clock + 1 < (call_of T.threads.calls t).deadline
    above t h w d n = omega (arith, soonest t h w d, not-due T.threads.calls (T.threads.device.clock + 1) t d n)
