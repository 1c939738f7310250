-- Some of those who wait wake, the rest keeping their order, at this clock or a later one: the tables stay kept.
-- Assumes nothing.
use Rattle.std.specs.Prelude.{◌≡◌, refl, Bool, false, cond, ◌&&◌, ◌⊎◌, List, ℕ, ◌-◌, ◌≤◌, ◌<◌, leb}
use Rattle.std.proofs.Math.Path.{sym, ap}
use Rattle.std.proofs.Common.{◌∙◌, inl, inr, arith}
use Rattle.std.proofs.Math.Bool.{true, not}
use Rattle.std.proofs.Math.Decide.{ℕ_discrete}
use Rattle.std.proofs.Math.Dec.{eqb}
use borrow.Author.Tests.{leb-true, eqb-true, eqb-false, eq-eqb, not-true}
use Rattle.laws.specs.Tests.{bit, tally-same, every_of, every-same, both, either}
use Rattle.laws.specs.Lists.{times, keep}
use Rattle.shape.specs.declared.Shape.{Shape}
use Rattle.shape.specs.Blocks.{count}
use Rattle.rules.specs.declared.Call.{Call}
use Rattle.rules.specs.Numbers.{FREEING, ALLOCATING, ASKED, WAITING, TIMED}
use Rattle.rules.specs.Tables.{State, state, state_at, queue_of, put_queue, call_of}
use Rattle.rules.specs.Valid.{in_hand, one_to_one, call_kept, calls_kept, running_ready, dividing, releasing}
use Rattle.rules.specs.Steps.{wake}
use Rattle.facts.specs.Given.{CallFacts, call_facts}
use Rattle.facts.specs.Wake.{length-wake}
use Rattle.proved_valid.specs.Lines.{Facts}
use Rattle.laws.specs.Changes.{cond-zero, times-keep}
use Rattle.proved_valid.specs.OneCall.{not-in-hand, running-of}
use Rattle.proved_valid.specs.QueueKept.{Named, named, queue-put, queue-ends, queue_is_long}
use Rattle.proved_valid.specs.Woken.{woken, wake-other, wake-own, woken-kept, later-kept}

-- the calls, when those of the queue for whom f passes have woken
abbrev awake : State → (ℕ → Bool) → List ℕ
awake T f = wake T.threads.calls (keep f (queue_of T.threads.queue))

-- thread t waited and wakes, or its call stays
abbrev Wakes : State → (ℕ → Bool) → ℕ → Type 0
Wakes T f t =
    (((call_of T.threads.calls t).stage ≡ WAITING) × (f t ≡ true) × (call_of (awake T f) t ≡ woken (call_of T.threads.calls t)))
    ⊎ ((call_of (awake T f) t ≡ call_of T.threads.calls t) × ((call_of T.threads.calls t).stage ≡ WAITING → f t ≡ false))

module _ {s : Shape} {T : State} (g : Facts s T) (f : ℕ → Bool) where
  queued : Named s T.threads.calls (queue_of T.threads.queue)
  queued = named s T.threads.calls T.threads.queue g.threads.waiters

  wakes : (t : ℕ) → t < s.threads → Wakes T f t
  wakes t h = go (eqb (call_of T.threads.calls t).stage WAITING) (f t) refl refl
    where
      times-woken : times t (keep f (queue_of T.threads.queue)) ≡ cond (f t) (bit (eqb (call_of T.threads.calls t).stage WAITING)) 0
      times-woken = times-keep f t (queue_of T.threads.queue) ∙ ap (λ (n : ℕ). cond (f t) n 0) (queued.each t h)

      go : (w x : Bool) → eqb (call_of T.threads.calls t).stage WAITING ≡ w → f t ≡ x → Wakes T f t
      go true true p q =
          inl (
            eqb-true _ _ p,
            q,
            wake-own T.threads.calls _ t (omega (arith, g.threads.long)) (omega (arith, rw (q, p) at times-woken)),
          )
      go w false p q = inr (wake-other T.threads.calls _ t (rw q at times-woken), λ _. q)
      go false true p q = inr (wake-other T.threads.calls _ t (rw (q, p) at times-woken), λ n. absurd (eqb-false _ _ p n))

  -- blocks in hand stay in hand
  hands-awake :
      (st : ℕ) (test : Call → Bool) → ((c : Call) → c.stage ≡ WAITING → test c ≡ false) →
      ((c : Call) → c.stage ≡ ASKED → test c ≡ false) → one_to_one st test s T.pool.states T.threads.calls ≡ true →
      one_to_one st test s T.pool.states (awake T f) ≡ true
  unfolding one_to_one
  hands-awake st test m n e =
      every-same s.levels _ _ (λ l i.
      every-same (count s l) _ _ (λ b j.
      ap (λ (k : ℕ). eqb k (bit (eqb (state_at s T.pool.states l b) st)))
      (tally-same s.threads _ _ (λ t h. hand l b t (wakes t h)))))
      ∙ e
    where
      hand : (l b t : ℕ) → Wakes T f t → in_hand test l b (call_of (awake T f) t) ≡ in_hand test l b (call_of T.threads.calls t)
      hand l b t (inl (w, x, q)) =
          rw q
          (not-in-hand test l b (woken (call_of T.threads.calls t)) (n _ refl)
          ∙ sym (not-in-hand test l b (call_of T.threads.calls t) (m _ w)))
      hand l b t (inr (q, y)) = ap (in_hand test l b) q

  -- those who still wait are queued
  still-queued : Named s (awake T f) (keep (λ t. not (f t)) (queue_of T.threads.queue))
  still-queued =
      record {
        each = λ t h. kept-times t ∙ ap (λ (n : ℕ). cond (not (f t)) n 0) (queued.each t h) ∙ at t (wakes t h);
        others = λ t h. kept-times t ∙ ap (λ (n : ℕ). cond (not (f t)) n 0) (queued.others t h) ∙ cond-zero (not (f t));
      }
    where
      kept-times :
          (t : ℕ) →
          times t (keep (λ u. not (f u)) (queue_of T.threads.queue)) ≡ cond (not (f t)) (times t (queue_of T.threads.queue)) 0
      kept-times t = times-keep (λ u. not (f u)) t (queue_of T.threads.queue)

      at :
          (t : ℕ) → Wakes T f t →
          cond (not (f t)) (bit (eqb (call_of T.threads.calls t).stage WAITING)) 0
          ≡ bit (eqb (call_of (awake T f) t).stage WAITING)
      at t (inl (w, x, q)) = rw (x, q)
      at t (inr (q, y)) = rw q (pick (eqb (call_of T.threads.calls t).stage WAITING) refl)
        where
          pick : (w : Bool) → eqb (call_of T.threads.calls t).stage WAITING ≡ w → cond (not (f t)) (bit w) 0 ≡ bit w
          pick true p = rw (y (eqb-true _ _ p))
          pick false p = cond-zero (not (f t))

  -- who runs doesn't wait
  still-ready :
      (t : ℕ) → not (eqb (call_of T.threads.calls t).stage WAITING) ≡ true → Wakes T f t →
      (call_of (awake T f) t).stage ≡ WAITING → ⊥
  still-ready t n (inl (w, x, q)) k = eqb-false _ _ (not-true _ n) w
  still-ready t n (inr (q, y)) k = eqb-false _ _ (not-true _ n) (ap (λ (c : Call). c.stage) (sym q) ∙ k)

  running-awake :
      (clock : ℕ) → running_ready s (awake T f) (record { clock = clock; running = T.threads.device.running }) ≡ true
  unfolding running_ready
  running-awake clock =
      go (ℕ_discrete T.threads.device.running 0) (either (eqb T.threads.device.running 0) _ g.threads.running)
    where
      go :
          Dec (T.threads.device.running ≡ 0) →
          (eqb T.threads.device.running 0 ≡ true)
          ⊎ ((leb T.threads.device.running s.threads
          && not (eqb (call_of T.threads.calls (T.threads.device.running - 1)).stage WAITING))
          ≡ true) →
          running_ready s (awake T f) (record { clock = clock; running = T.threads.device.running }) ≡ true
      go (yes z) r = rw (eq-eqb _ _ z)
      go (no z) (inl r) = absurd (z (eqb-true _ _ r))
      go (no z) (inr r) =
          let q = both (leb T.threads.device.running s.threads) _ r in
          let h : T.threads.device.running - 1 < s.threads = omega (arith, leb-true T.threads.device.running s.threads q.0) in
          running-of s (awake T f) (record { clock = clock; running = T.threads.device.running }) (T.threads.device.running - 1)
          (omega arith)
          h
          (still-ready (T.threads.device.running - 1) q.1 (wakes (T.threads.device.running - 1) h))

  -- the clock stays or goes on, but not past a deadline of those who still wait
  module _ (later : ℕ) (h : T.threads.device.clock ≤ later)
      (k : (t : ℕ) → t < s.threads → (call_of T.threads.calls t).stage ≡ WAITING → (call_of T.threads.calls t).wait ≡ TIMED → f t ≡ false →
      later < (call_of T.threads.calls t).deadline) where
    calls-awake : calls_kept s later (awake T f) ≡ true
    unfolding calls_kept
    calls-awake = every_of s.threads _ (λ t m. at t m (wakes t m))
      where
        was : (t : ℕ) → t < s.threads → CallFacts s T.threads.device.clock (call_of T.threads.calls t)
        was t m = call_facts s T.threads.device.clock T.threads.calls g.threads.kept t m

        at : (t : ℕ) → t < s.threads → Wakes T f t → call_kept s later (call_of (awake T f) t) ≡ true
        at t m (inl (w, x, q)) = rw q (woken-kept s T.threads.device.clock later (call_of T.threads.calls t) (was t m) h w)
        at t m (inr (q, y)) =
            rw q (later-kept s T.threads.device.clock later (call_of T.threads.calls t) (was t m) h (λ w d. k t m w d (y w)))

    pub wakes-kept :
        Facts s
        (state T.pool.states T.pool.owners T.pool.lists (wake T.threads.calls (keep f (queue_of T.threads.queue)))
        (put_queue s.threads (keep (λ t. not (f t)) (queue_of T.threads.queue)))
        (record { clock = later; running = T.threads.device.running }))
    wakes-kept =
        record {
          pool = g.pool;
          threads =
              record {
                long = length-wake T.threads.calls _ ∙ g.threads.long;
                queue_long = queue_is_long still-queued;
                kept = calls-awake;
                ends = queue-ends still-queued;
                waiters = queue-put still-queued;
                running = running-awake later;
              };
          hands =
              record {
                allocating = hands-awake ALLOCATING dividing (λ c e. rw e) (λ c e. rw e) g.hands.allocating;
                freeing = hands-awake FREEING releasing (λ c e. rw e) (λ c e. rw e) g.hands.freeing;
              };
        }
