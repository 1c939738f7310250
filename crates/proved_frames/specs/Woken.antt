-- Who is woken: a settle and a tick answer how many left the queue, after a settle nobody waits, and who begins to wait joins the queue's end.
-- Assumes nothing.
use Rattle.std.proofs.Math.Path.{◌≡◌, refl}
use Rattle.std.proofs.Common.{Ok, arith, length-append}
use Rattle.std.specs.Prelude.{Bool, true, false, not, cond, ℕ, ◌+◌, ◌≤◌, length}
use mathlib.Core.List.{List, [], ◌∷◌, ◌++◌}
use Rattle.laws.specs.Lists.{keep}
use Rattle.laws.specs.Keep.{keep-most}
use Rattle.shape.specs.declared.Shape.{Shape}
use Rattle.rules.specs.declared.Call.{Call}
use Rattle.rules.specs.declared.Answer.TheVariants.{Waiting, Settled, Ticked}
use Rattle.rules.specs.Tables.{State, queue_of, put_queue}
use Rattle.rules.specs.Steps.{Outcome, take_from, split_step, grant_step, merge_step, settle_step}
use Rattle.rules.specs.Calls.{due}
use Rattle.facts.specs.Lines.{Sound, valid-facts}
use Rattle.facts.specs.Given.{length-facts, queue-room}
use Rattle.facts.specs.Queue.{queue_ready, length-queue_of, queue_of-put_queue}
use Rattle.facts.specs.Running.{Running, ready}
use Rattle.history.specs.History.{Step, GoOn, step_on}
use Rattle.history.specs.Walk.{EachGoOn}
use Rattle.history.proofs.Walk.{each_step}
use Rattle.rules.specs.Answers.{Answered}

-- what a step leaves of the queue, by its answer
pub record Wakes (T : State) (x : Step) (o : Outcome) : Type 0 where
  pub settled :
      (n : ℕ) → o.answer ≡ Ok (Settled n) →
      (n ≡ length (queue_of T.threads.queue)) × (queue_of o.after.threads.queue ≡ [])
  pub ticked :
      (n : ℕ) → o.answer ≡ Ok (Ticked n) →
      n + length (queue_of o.after.threads.queue) ≡ length (queue_of T.threads.queue)
  pub joined :
      o.answer ≡ Ok Waiting →
      (t : ℕ) × (x ≡ GoOn t) × (queue_of o.after.threads.queue ≡ queue_of T.threads.queue ++ (t ∷ []))

-- those that pass and those that fail are all
keep-split :
    (f : ℕ → Bool) (xs : List ℕ) → length (keep f xs) + length (keep (λ x. not (f x)) xs) ≡ length xs
unfolding keep
keep-split f [] = refl
keep-split f (x ∷ xs) = go (f x) (keep-split f xs)
  where
    go :
        (b : Bool) → length (keep f xs) + length (keep (λ x. not (f x)) xs) ≡ length xs →
        length (cond b (x ∷ keep f xs) (keep f xs)) + length (cond (not b) (x ∷ keep (λ x. not (f x)) xs) (keep (λ x. not (f x)) xs))
        ≡ length (x ∷ xs)
    go true e = omega arith
    go false e = omega arith

-- a step that answers none of these
other :
    {T : State} {x : Step} {o : Outcome} → ((n : ℕ) → o.answer ≡ Ok (Settled n) → ◌≡◌ {A = ℕ} 0 1) →
    ((n : ℕ) → o.answer ≡ Ok (Ticked n) → ◌≡◌ {A = ℕ} 0 1) → (o.answer ≡ Ok Waiting → ◌≡◌ {A = ℕ} 0 1) → Wakes T x o
other a b c =
    record {
      settled = λ n e. absurd (omega (arith, a n e));
      ticked = λ n e. absurd (omega (arith, b n e));
      joined = λ e. absurd (omega (arith, c e));
    }

module _ (s : Shape) (T : State) (v : Sound s T) where
  few : length (queue_of T.threads.queue) ≤ s.threads
  few =
      let lengths = length-facts s T v.lengths in
      let r = queue_ready s T.threads.queue (valid-facts s T v.valid).threads.queue_ends lengths.queue in
      omega (arith, lengths.queue, r.ends, length-queue_of T.threads.queue (omega (arith, r.some, r.ends)))

  room : (t : ℕ) (c : Call) → Running s T t c → length (queue_of T.threads.queue ++ (t ∷ [])) ≤ s.threads
  room t c g =
      let lengths = length-facts s T v.lengths in
      let r = queue_ready s T.threads.queue (valid-facts s T v.valid).threads.queue_ends lengths.queue in
      let free = queue-room s T (valid-facts s T v.valid) lengths t g.thread (λ q. ready g (rw g.own at q)) in
      omega (
        arith,
        length-append (queue_of T.threads.queue) (t ∷ []),
        length-queue_of T.threads.queue (omega (arith, r.some, r.ends)),
        free,
      )

  go-on-wakes : (t : ℕ) (c : Call) → Running s T t c → EachGoOn (Wakes T (GoOn t)) s T t c
  unfolding take_from split_step grant_step merge_step settle_step
  go-on-wakes t c g =
      record {
        ends = λ r e a. other (λ n q. cc) (λ n q. cc) (λ q. cc);
        finds = λ l a q. other (λ n q. cc) (λ n q. cc) (λ q. cc);
        blocks = λ a n d.
            record {
              settled = λ n q. absurd (omega (arith, clash n q));
              ticked = λ n q. absurd (omega (arith, clash' n q));
              joined = λ q. (t, refl, queue_of-put_queue s.threads _ (room t c g));
            };
        again = λ f. other (λ n q. cc) (λ n q. cc) (λ q. cc);
        takes = λ b bs f q. other (λ n q. cc) (λ n q. cc) (λ q. cc);
        splits = λ d h. other (λ n q. cc) (λ n q. cc) (λ q. cc);
        grants = λ d h. other (λ n q. cc) (λ n q. cc) (λ q. cc);
        settles = λ r e.
            record {
              settled = λ n q. (settled-number n q, queue_of-put_queue s.threads [] (omega arith));
              ticked = λ n q. absurd (omega (arith, clash'' n q));
              joined = λ q. absurd (omega (arith, clash''' q));
            };
        merges = λ r e. other (λ n q. cc) (λ n q. cc) (λ q. cc);
      }
    where
      clash : (n : ℕ) → ◌≡◌ {A = Answered} (Ok Waiting) (Ok (Settled n)) → ◌≡◌ {A = ℕ} 0 1
      clash n q = cc

      clash' : (n : ℕ) → ◌≡◌ {A = Answered} (Ok Waiting) (Ok (Ticked n)) → ◌≡◌ {A = ℕ} 0 1
      clash' n q = cc

      clash'' : {m : ℕ} (n : ℕ) → ◌≡◌ {A = Answered} (Ok (Settled m)) (Ok (Ticked n)) → ◌≡◌ {A = ℕ} 0 1
      clash'' n q = cc

      clash''' : {m : ℕ} → ◌≡◌ {A = Answered} (Ok (Settled m)) (Ok Waiting) → ◌≡◌ {A = ℕ} 0 1
      clash''' q = cc

      settled-number : {m : ℕ} (n : ℕ) → ◌≡◌ {A = Answered} (Ok (Settled m)) (Ok (Settled n)) → n ≡ m
      settled-number n q = cc

  pub step-wakes : (x : Step) → Wakes T x (step_on s T x)
  step-wakes =
      each_step (Wakes T) s T
      (record {
        stays = λ x r e u. other (λ n q. cc) (λ n q. cc) (λ q. cc);
        builds = λ a. other (λ n q. cc) (λ n q. cc) (λ q. cc);
        asks = λ t size ms g o h. other (λ n q. cc) (λ n q. cc) (λ q. cc);
        goes = λ t g. go-on-wakes t _ g;
        gives = λ t i g o p a w. other (λ n q. cc) (λ n q. cc) (λ q. cc);
        switches = λ t h w. other (λ n q. cc) (λ n q. cc) (λ q. cc);
        ticks = λ v.
            record {
              settled = λ n q. absurd (omega (arith, no-settle n q));
              ticked = λ n q. left n q;
              joined = λ q. absurd (omega (arith, no-wait q));
            };
        whole = other (λ n q. cc) (λ n q. cc) (λ q. cc);
        not-whole = other (λ n q. cc) (λ n q. cc) (λ q. cc);
      })
    where
      passes : ℕ → Bool
      passes = due T.threads.calls (T.threads.device.clock + 1)

      no-settle : {m : ℕ} (n : ℕ) → ◌≡◌ {A = Answered} (Ok (Ticked m)) (Ok (Settled n)) → ◌≡◌ {A = ℕ} 0 1
      no-settle n q = cc

      no-wait : {m : ℕ} → ◌≡◌ {A = Answered} (Ok (Ticked m)) (Ok Waiting) → ◌≡◌ {A = ℕ} 0 1
      no-wait q = cc

      number : {m : ℕ} (n : ℕ) → ◌≡◌ {A = Answered} (Ok (Ticked m)) (Ok (Ticked n)) → n ≡ m
      number n q = cc

      short : length (keep (λ t. not (passes t)) (queue_of T.threads.queue)) ≤ s.threads
      short = omega (arith, keep-most (λ t. not (passes t)) (queue_of T.threads.queue), few)

      left :
          (n : ℕ) → ◌≡◌ {A = Answered} (Ok (Ticked (length (keep passes (queue_of T.threads.queue))))) (Ok (Ticked n)) →
          n
          + length (queue_of (put_queue s.threads (keep (λ t. not (passes t)) (queue_of T.threads.queue))))
          ≡ length (queue_of T.threads.queue)
      left n q =
          rw (number n q, queue_of-put_queue s.threads _ short) (keep-split passes (queue_of T.threads.queue))
