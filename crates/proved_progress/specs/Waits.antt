-- Document 01, 'Calls and steps': on valid tables no call that may not wait is waiting, and none whose deadline the clock has reached.
-- Assumes nothing.
use Rattle.std.specs.Prelude.{◌≡◌, true, List, ℕ, ◌+◌, ◌≤◌, ◌<◌, take, leb}
use Rattle.std.proofs.lemmas.Bool.{false≢true}
use Rattle.std.proofs.Common.{arith, ltb-true}
use Rattle.laws.specs.Tests.{both}
use Rattle.shape.specs.declared.Shape.{Shape}
use Rattle.shape.specs.Limits.{allowed}
use Rattle.shape.specs.Time.{ticks, longest}
use Rattle.rules.specs.declared.Call.{Call}
use Rattle.rules.specs.Numbers.{WAITING, NEVER, TIMED}
use Rattle.rules.specs.Tables.{State, call_of, fresh}
use Rattle.rules.specs.Valid.{deadline_kept, may_wait, valid}
use Rattle.facts.specs.Lines.{valid-facts}
use Rattle.facts.specs.Given.{CallFacts, call_facts}
use Rattle.history.specs.History.{Step, run_steps}
use Rattle.proved_valid.specs.Histories.{histories-valid}

-- the call waits as the rules allow: it may wait, and its deadline, where it has one, is above the clock
pub record Waits (clock : ℕ) (c : Call) : Type 0 where
  pub may : c.wait ≡ NEVER → ⊥
  pub early : c.wait ≡ TIMED → clock < c.deadline

waits-of : (s : Shape) (clock : ℕ) (c : Call) → CallFacts s clock c → c.stage ≡ WAITING → Waits clock c
unfolding deadline_kept may_wait
waits-of s clock c f e =
    record {
      may = λ n. false≢true (rw (e, n) at f.waits);
      early = λ n. ltb-true _ _ (both (leb c.deadline (clock + ticks longest)) _ (rw (e, n) at f.deadline)).1;
    }

-- whoever waits may wait, and waits for a time that the clock has not reached
pub waits :
    (s : Shape) (T : State) (t : ℕ) → valid s T ≡ true → t < s.threads → (call_of T.threads.calls t).stage ≡ WAITING →
    Waits T.threads.device.clock (call_of T.threads.calls t)
waits s T t v h e =
    waits-of s T.threads.device.clock (call_of T.threads.calls t)
    (call_facts s T.threads.device.clock T.threads.calls (valid-facts s T v).threads.calls_kept t h)
    e

-- a call that may not wait is never waiting
pub never-waits :
    (s : Shape) (T : State) (t : ℕ) → valid s T ≡ true → t < s.threads → (call_of T.threads.calls t).wait ≡ NEVER →
    (call_of T.threads.calls t).stage ≡ WAITING → ⊥
never-waits s T t v h n e = (waits s T t v h e).may n

-- once the clock has reached its deadline a timed call is not waiting
pub timed-waits :
    (s : Shape) (T : State) (t : ℕ) → valid s T ≡ true → t < s.threads → (call_of T.threads.calls t).wait ≡ TIMED →
    (call_of T.threads.calls t).deadline ≤ T.threads.device.clock → (call_of T.threads.calls t).stage ≡ WAITING → ⊥
timed-waits s T t v h n k e = omega (arith, (waits s T t v h e).early n)

-- so it is in every state of every history
pub histories-wait :
    (s : Shape) (xs : List Step) (n t : ℕ) → allowed s ≡ true → t < s.threads →
    (call_of (run_steps s (fresh s) (take n xs)).threads.calls t).stage ≡ WAITING →
    Waits (run_steps s (fresh s) (take n xs)).threads.device.clock (call_of (run_steps s (fresh s) (take n xs)).threads.calls t)
histories-wait s xs n t a h e = waits s (run_steps s (fresh s) (take n xs)) t (histories-valid s xs n a).valid h e
