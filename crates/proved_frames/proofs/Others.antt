-- Document 01, 'Calls and steps': no step of one thread changes another thread's call, save that a waiting call may become asked.
-- Assumes nothing.
use Rattle.std.specs.Prelude.{◌≡◌, refl, Bool, true, false, cond, List, ℕ, zero, suc, ◌+◌, ◌*◌, ◌≤◌, ◌<◌, length, eqb}
use Rattle.std.proofs.Common.{sym, ap, inr, arith, eqb-true}
use Rattle.std.proofs.Math.Logic.{inl}
use Rattle.laws.specs.Tests.{bit}
use Rattle.laws.specs.Lists.{times, keep}
use Rattle.shape.specs.declared.Shape.{Shape}
use Rattle.rules.specs.declared.Call.{Call}
use Rattle.rules.specs.Numbers.{WAITING, CELLS}
use Rattle.rules.specs.Tables.{State, queue_of, call_of, put_call}
use Rattle.rules.specs.Steps.{closed, wake, take_from, split_step, grant_step, merge_step, settle_step}
use Rattle.facts.specs.Call.{length-put_call, call_of-put_call-other}
use Rattle.laws.specs.Changes.{times-keep}
use Rattle.proved_valid.specs.Lines.{Facts, facts}
use Rattle.proved_valid.specs.QueueKept.{named}
use Rattle.proved_valid.specs.Woken.{wake-other, wake-own}
use Rattle.history.specs.History.{Step, Build, GoOn, step_on}
use Rattle.history.specs.Walk.{EachGoOn, EachStep}
use Rattle.history.proofs.Walk.{each_step}
use Rattle.proved_frames.specs.Others.{maker, CallStays, OtherStays}

-- some of those who wait wake
wakes-only :
    (calls ts : List ℕ) (u : ℕ) → CELLS * u < length calls → times u ts ≤ bit (eqb (call_of calls u).stage WAITING) →
    CallStays calls (wake calls ts) u
wakes-only calls ts u h k = at (times u ts) (eqb (call_of calls u).stage WAITING) refl refl
  where
    at :
        (n : ℕ) (w : Bool) → times u ts ≡ n → eqb (call_of calls u).stage WAITING ≡ w → CallStays calls (wake calls ts) u
    at zero w p q = inl (wake-other calls ts u p)
    at (suc n) true p q = inr (eqb-true _ _ q, wake-own calls ts u h (omega arith))
    at (suc n) false p q = absurd (omega (arith, rw q at k))

module _ (s : Shape) (T : State) (u : ℕ) (h : u < s.threads) where
  queued : Facts s T → times u (queue_of T.threads.queue) ≡ bit (eqb (call_of T.threads.calls u).stage WAITING)
  queued k = (named s T.threads.calls T.threads.queue k.threads.waiters).each u h

  -- a tick wakes some of those who are queued
  ticked-stays : (f : ℕ → Bool) → Facts s T → CallStays T.threads.calls (wake T.threads.calls (keep f (queue_of T.threads.queue))) u
  ticked-stays f k =
      wakes-only T.threads.calls (keep f (queue_of T.threads.queue)) u (omega (arith, k.threads.long))
      (omega (arith, times-keep f u (queue_of T.threads.queue), fewer (f u) (times u (queue_of T.threads.queue)), queued k))
    where
      fewer : (b : Bool) (n : ℕ) → cond b n 0 ≤ n
      fewer true n = omega arith
      fewer false n = omega arith

  -- a settle closes its own call and wakes all who are queued
  settled-stays :
      (t : ℕ) → (u ≡ t → ⊥) → Facts s T →
      CallStays T.threads.calls (wake (put_call T.threads.calls t closed) (queue_of T.threads.queue)) u
  settled-stays t n k =
      rw same at
      (wakes-only (put_call T.threads.calls t closed) (queue_of T.threads.queue) u
      (omega (arith, k.threads.long, length-put_call T.threads.calls t closed))
      (rw same (omega (arith, queued k))))
    where
      same : call_of (put_call T.threads.calls t closed) u ≡ call_of T.threads.calls u
      same = call_of-put_call-other T.threads.calls t u closed n

  -- the step puts its own thread's call
  put : (t : ℕ) (c : Call) → (t + 1 ≡ u + 1 → ⊥) → call_of (put_call T.threads.calls t c) u ≡ call_of T.threads.calls u
  put t c n = call_of-put_call-other T.threads.calls t u c (λ q. n (ap (λ (k : ℕ). k + 1) (sym q)))

  go-on-others : (t : ℕ) (c : Call) → Facts s T → EachGoOn (OtherStays T u (GoOn t)) s T t c
  unfolding take_from split_step grant_step merge_step settle_step
  go-on-others t c k =
      record {
        ends = λ r e a n _. inl (put t _ n);
        finds = λ l a q n _. inl (put t _ n);
        blocks = λ a m d n _. inl (put t _ n);
        again = λ f n _. inl (put t _ n);
        takes = λ b bs f q n _. inl (put t _ n);
        splits = λ d h n _. inl (put t _ n);
        grants = λ d h n _. inl (put t _ n);
        settles = λ r e n _. settled-stays t (λ q. n (ap (λ (k : ℕ). k + 1) (sym q))) k;
        merges = λ r e n _. inl (put t _ n);
      }

  each-other : EachStep (OtherStays T u) s T
  each-other =
      record {
        stays = λ x r e u _ _. inl refl;
        builds = λ a _ n. absurd (n refl);
        asks = λ t size ms g o h n _. inl (put t _ n);
        goes = λ t g. go-on-others t _ (facts g.sound);
        gives = λ t i g o p a w n _. inl (put t _ n);
        switches = λ t h w _ _. inl refl;
        ticks = λ k _ _. ticked-stays _ (facts k);
        whole = λ _ _. inl refl;
        not-whole = λ _ _. inl refl;
      }

-- whoever makes the step, the call of any other thread stays, or it waited and is asked
pub others-stay :
    (s : Shape) (T : State) (x : Step) (u : ℕ) → u < s.threads → (maker x ≡ u + 1 → ⊥) → (x ≡ Build → ⊥) →
    CallStays T.threads.calls (step_on s T x).after.threads.calls u
others-stay s T x u h = each_step (OtherStays T u) s T (each-other s T u h) x
