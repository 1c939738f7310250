-- A thread runs and its call is put: what is said of the threads' tables afterwards.
-- Assumes nothing.
use Rattle.std.specs.Prelude.{◌≡◌, refl, true, false, ◌||◌, Bool, List, ℕ, ◌+◌, ◌<◌, eqb}
use Rattle.std.proofs.Common.{sym, ◌∙◌, ap, true≢false, arith, ne_eqb}
use Rattle.std.proofs.Math.Decide.{ℕ_discrete}
use Rattle.laws.specs.Tests.{bit}
use Rattle.laws.specs.Lists.{times}
use Rattle.shape.specs.declared.Shape.{Shape}
use Rattle.shape.specs.Blocks.{count}
use Rattle.rules.specs.declared.Call.{Call}
use Rattle.rules.specs.Numbers.{FREEING, ALLOCATING, ASKED, FOUND, DIVIDING, RELEASING, WAITING}
use Rattle.rules.specs.Tables.{State, state_at, queue_of, call_of, put_call}
use Rattle.rules.specs.Valid.{uses_block, in_hand, one_to_one, call_kept, calls_kept, releasing, dividing}
use Rattle.rules.specs.Steps.{only_call}
use Rattle.facts.specs.Call.{length-put_call, call_of-put_call-other}
use Rattle.facts.specs.Running.{Running, own-facts, uses-block, ready}
use Rattle.proved_valid.specs.Lines.{Threads, Facts, facts}
use Rattle.proved_valid.specs.CallLines.{Asks, asks, uses-wait}
use Rattle.proved_valid.specs.OneCall.{not-in-hand, running-of, put-mine, calls-put, hands-put}
use Rattle.proved_valid.specs.QueueKept.{Named, named, waiters-of}
use Rattle.facts.specs.Lines.{HandsFacts}

-- only calls that use a block pass the test
abbrev pub OfBlocks : (Call → Bool) → Type 0
OfBlocks test = (c : Call) → uses_block c ≡ false → test c ≡ false

neither : (a b : Bool) → (a || b) ≡ false → (a ≡ false) × (b ≡ false)
neither true b e = absurd (true≢false e)
neither false b e = (refl, e)

pub dividing-block : OfBlocks dividing
dividing-block c n = (neither (dividing c) (releasing c) n).0

pub releasing-block : OfBlocks releasing
releasing-block c n = (neither (dividing c) (releasing c) n).1

module _ {s : Shape} {T : State} {t : ℕ} {c : Call} (g : Running s T t c) where
  -- what it asks for, where its stage uses the wait
  pub asking : (n : ℕ) → c.stage ≡ n → (eqb n ASKED || eqb n WAITING || eqb n FOUND) ≡ true →
      (eqb n DIVIDING || eqb n RELEASING) ≡ false → Asks s T.threads.device.clock c
  asking n e w b = asks s T.threads.device.clock c (own-facts g) (uses-wait c n e ∙ w) (uses-block c n e ∙ b)

  pub calls-after :
      (d : Call) → call_kept s T.threads.device.clock d ≡ true → calls_kept s T.threads.device.clock (put_call T.threads.calls t d) ≡ true
  calls-after d k =
      calls-put s T.threads.calls t d (facts g.sound).threads.long g.thread T.threads.device.clock (facts g.sound).threads.kept k

  -- blocks stay one to one to calls where the state and the call change together
  pub hands-after :
      (st : ℕ) (test : Call → Bool) (d : Call) (after : List ℕ) → one_to_one st test s T.pool.states T.threads.calls ≡ true →
      ((l b : ℕ) → l < s.levels → b < count s l →
      bit (eqb (state_at s after l b) st) + bit (in_hand test l b c)
      ≡ bit (eqb (state_at s T.pool.states l b) st) + bit (in_hand test l b d)) →
      one_to_one st test s after (put_call T.threads.calls t d) ≡ true
  hands-after st test d after e k =
      hands-put s T.threads.calls t d (facts g.sound).threads.long g.thread st test T.pool.states after e (rw g.own k)

  -- and stay so where neither call has one in hand and no state changes
  idle-after :
      (st : ℕ) (test : Call → Bool) (d : Call) → OfBlocks test → uses_block c ≡ false → uses_block d ≡ false →
      one_to_one st test s T.pool.states T.threads.calls ≡ true →
      one_to_one st test s T.pool.states (put_call T.threads.calls t d) ≡ true
  idle-after st test d e x y k =
      hands-after st test d T.pool.states k
      (λ l b i j. rw (not-in-hand test l b c (e c x), not-in-hand test l b d (e d y)))

  pub idle-hands :
      (d : Call) → uses_block c ≡ false → uses_block d ≡ false →
      HandsFacts s T.pool.states (put_call T.threads.calls t d)
  idle-hands d x y =
      record {
        allocating = idle-after ALLOCATING dividing d dividing-block x y (facts g.sound).hands.allocating;
        freeing = idle-after FREEING releasing d releasing-block x y (facts g.sound).hands.freeing;
      }

  -- who waits, where a list that names those who wait gains or keeps this thread
  pub named-after :
      (d : Call) (xs : List ℕ) → times t xs ≡ bit (eqb d.stage WAITING) →
      ((u : ℕ) → (u ≡ t → ⊥) → times u xs ≡ times u (queue_of T.threads.queue)) → Named s (put_call T.threads.calls t d) xs
  named-after d xs e k =
      record {
        each = λ u l. at u l (ℕ_discrete u t);
        others = λ u l. k u (omega (arith, g.thread)) ∙ was.others u l;
      }
    where
      was : Named s T.threads.calls (queue_of T.threads.queue)
      was = named s T.threads.calls T.threads.queue (facts g.sound).threads.waiters

      at : (u : ℕ) → u < s.threads → Dec (u ≡ t) → times u xs ≡ bit (eqb (call_of (put_call T.threads.calls t d) u).stage WAITING)
      at u l (yes q) = rw (q, put-mine s T.threads.calls t d (facts g.sound).threads.long g.thread) e
      at u l (no q) = k u q ∙ was.each u l ∙ rw (call_of-put_call-other T.threads.calls t u d q)

  -- it isn't queued
  pub not-queued : times t (queue_of T.threads.queue) ≡ 0
  not-queued =
      (named s T.threads.calls T.threads.queue (facts g.sound).threads.waiters).each t g.thread ∙ rw (g.own, ne_eqb _ _ (ready g))

  -- it goes on running with another call
  pub threads-after :
      (d : Call) → (d.stage ≡ WAITING → ⊥) → call_kept s T.threads.device.clock d ≡ true →
      Threads s (put_call T.threads.calls t d) T.threads.queue T.threads.device
  threads-after d n k =
      record {
        long = length-put_call T.threads.calls t d ∙ (facts g.sound).threads.long;
        queue_long = (facts g.sound).threads.queue_long;
        kept = calls-after d k;
        ends = (facts g.sound).threads.ends;
        waiters =
            waiters-of s (put_call T.threads.calls t d) T.threads.queue
            (named-after d (queue_of T.threads.queue) (not-queued ∙ rw (ne_eqb _ _ n)) (λ u q. refl));
        running =
            running-of s (put_call T.threads.calls t d) T.threads.device t g.running g.thread
            (λ q.
            n (ap (λ (k : Call). k.stage) (sym (put-mine s T.threads.calls t d (facts g.sound).threads.long g.thread)) ∙ q));
      }

  -- the step changes this call and nothing else, and neither call has a block in hand
  pub only-call :
      (d : Call) → uses_block c ≡ false → uses_block d ≡ false → (d.stage ≡ WAITING → ⊥) →
      call_kept s T.threads.device.clock d ≡ true → Facts s (only_call T t d)
  only-call d x y n k =
      record {
        pool = (facts g.sound).pool;
        threads = threads-after d n k;
        hands = idle-hands d x y;
      }
