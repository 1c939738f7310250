-- Asked: a call that looks for room ends, finds a level, or waits; the tables stay kept.
-- Assumes nothing.
use Rattle.std.specs.Prelude.{Some, ◌≡◌, false, [], ◌∷◌, ◌++◌, ℕ, ◌+◌, ◌<◌}
use Rattle.std.proofs.Math.Path.{refl}
use Rattle.std.proofs.Common.{◌∙◌, ap, ap₂, arith, eq-eqb, ne_eqb}
use Rattle.laws.specs.Tests.{bit}
use Rattle.laws.specs.Lists.{times}
use Rattle.laws.specs.Times.{times-append, times-one}
use Rattle.shape.specs.declared.Shape.{Shape}
use Rattle.shape.specs.Blocks.{level_for}
use Rattle.rules.specs.declared.Call.{Call}
use Rattle.rules.specs.Numbers.{ASKED, FOUND, WAITING, NEVER, TIMED}
use Rattle.rules.specs.Tables.{State, queue_of, put_call, lent}
use Rattle.rules.specs.Valid.{uses_block, running_ready}
use Rattle.rules.specs.Steps.{only_call, closed, moved, deepest}
use Rattle.facts.specs.Call.{length-put_call}
use Rattle.proved_bytes.specs.Found.{deepest-some}
use Rattle.facts.specs.Running.{Running, uses-block}
use Rattle.rules.specs.Steps.{blocked}
use Rattle.proved_valid.specs.Lines.{Facts, facts}
use Rattle.proved_valid.specs.CallLines.{closed-kept, found-kept, waiting_kept}
use Rattle.proved_valid.specs.QueueKept.{Named, queue-put, queue-ends, queue_is_long}
use Rattle.proved_valid.specs.Runs.{asking, not-queued, calls-after, named-after, only-call, idle-hands}

module _ {s : Shape} {T : State} {t : ℕ} {c : Call} (g : Running s T t c) (e : c.stage ≡ ASKED) where
  idle : uses_block c ≡ false
  idle = uses-block c ASKED e

  -- the call ends
  pub end_kept : Facts s (only_call T t closed)
  end_kept = only-call g closed idle refl (λ q. omega arith) (closed-kept s T.threads.device.clock)

  -- it joins the queue's end
  joined : Named s (put_call T.threads.calls t (moved c WAITING 0)) (queue_of T.threads.queue ++ (t ∷ []))
  joined =
      named-after g (moved c WAITING 0) (queue_of T.threads.queue ++ (t ∷ [])) mine
      (λ u q. times-append u (queue_of T.threads.queue) (t ∷ []) ∙ omega (arith, times-one u t ∙ ap bit (ne_eqb u t q)))
    where
      mine : times t (queue_of T.threads.queue ++ (t ∷ [])) ≡ 1
      mine =
          times-append t (queue_of T.threads.queue) (t ∷ [])
          ∙ ap₂ ◌+◌ (not-queued g) (times-one t t ∙ ap bit (eq-eqb t t refl))

  -- blocked, and nobody runs
  pub block-kept :
      (c.wait ≡ NEVER → ⊥) → (c.wait ≡ TIMED → T.threads.device.clock < c.deadline) → Facts s (lent T.pool (blocked s T.threads t c))
  unfolding running_ready
  block-kept n d =
      record {
        pool = (facts g.sound).pool;
        threads =
            record {
              long = length-put_call T.threads.calls t (moved c WAITING 0) ∙ (facts g.sound).threads.long;
              queue_long = queue_is_long joined;
              kept =
                  calls-after g (moved c WAITING 0)
                  (waiting_kept s T.threads.device.clock c (asking g ASKED e refl refl) n d);
              ends = queue-ends joined;
              waiters = queue-put joined;
              running = refl;
            };
        hands = idle-hands g (moved c WAITING 0) idle refl;
      }

  -- a level is found
  pub find-kept : (l : ℕ) → deepest T.pool.lists (level_for s c.size) ≡ Some l → Facts s (only_call T t (moved c FOUND l))
  find-kept l q =
      only-call g (moved c FOUND l) idle refl (λ q. omega arith)
      (found-kept s T.threads.device.clock c (asking g ASKED e refl refl) l
      (deepest-some T.pool.lists (level_for s c.size) l q).0)
