-- Document 01, 'Calls and steps': a block that is granted is a block of the pool, of the deepest level whose size is at least the one asked.
-- Assumes nothing.
use Rattle.std.specs.Prelude.{Ok, ◌≡◌, refl, true, ℕ, ◌≤◌, ◌<◌}
use Rattle.std.proofs.Common.{◌∙◌, arith, leb-true}
use Rattle.shape.specs.declared.Shape.{Shape}
use Rattle.shape.specs.Limits.{allowed}
use Rattle.shape.specs.Blocks.{count, id, id_pool, id_level, id_block, level_for}
use Rattle.shape.specs.Laws.{limits, level_for-fits}
use Rattle.rules.specs.declared.Call.{Call}
use Rattle.rules.specs.declared.Answer.TheVariants.{Granted}
use Rattle.rules.specs.Numbers.{DIVIDING}
use Rattle.rules.specs.Tables.{State, call_of}
use Rattle.rules.specs.Valid.{target_kept, size_kept}
use Rattle.facts.specs.Given.{CallFacts, hand-inside}
use Rattle.rules.specs.Steps.{take_from, split_step, grant_step, merge_step, settle_step}
use Rattle.proved_bytes.specs.Requests.{level_for-deepest}
use Rattle.history.specs.History.{GoOn, step_on, Step}
use Rattle.facts.specs.Running.{Running, own-facts}
use Rattle.history.specs.Walk.{EachGoOn}
use Rattle.history.proofs.Walk.{each_step}
use Rattle.proved_progress.specs.Fits.{Fits, FitsThen}
use Rattle.rules.specs.Answers.{Answered}

-- a block's id has its pool, its level and its block number back
id-back :
    (s : Shape) (l b : ℕ) → s.pool ≤ 255 → l < 16 →
    (id_pool (id s l b) ≡ s.pool) × (id_level (id s l b) ≡ l) × (id_block (id s l b) ≡ b)
id-back s l b h k = (omega arith, omega arith, omega arith)

grants-fit :
    (s : Shape) (clock : ℕ) (c : Call) → allowed s ≡ true → CallFacts s clock c → c.stage ≡ DIVIDING →
    level_for s c.size ≤ c.level → Fits s c.size (id s c.level c.block)
unfolding target_kept size_kept
grants-fit s clock c a f d h =
    record {
      pool = back.0;
      level = back.1 ∙ at;
      inside = rw (back.1, back.2) hand;
      large = rw (back.1, at) (level_for-fits s c.size (leb-true _ _ f.size));
      least = λ m i k. rw (back.1, at) (level_for-deepest s c.size m i k);
    }
  where
    hand : (c.level < s.levels) × (c.block < count s c.level)
    hand = hand-inside s c f.hand (rw d refl)

    at : c.level ≡ level_for s c.size
    at = omega (arith, leb-true c.level (level_for s c.size) (rw d at f.target))

    back :
        (id_pool (id s c.level c.block) ≡ s.pool) × (id_level (id s c.level c.block) ≡ c.level)
        × (id_block (id s c.level c.block) ≡ c.block)
    back = id-back s c.level c.block (limits s a).pool (omega (arith, hand.0, (limits s a).levels.1))

module _ (s : Shape) (T : State) where
  -- it does not grant
  other :
      {x : Step} (a : Answered) → ((i : ℕ) → a ≡ Ok (Granted i) → ◌≡◌ {A = ℕ} 0 1) → (t i : ℕ) → x ≡ GoOn t → a ≡ Ok (Granted i) →
      Fits s (call_of T.threads.calls t).size i
  other a n t i q e = absurd (omega (arith, n i e))

  go-on-fits : (t : ℕ) → Running s T t (call_of T.threads.calls t) → EachGoOn (FitsThen s T (GoOn t)) s T t (call_of T.threads.calls t)
  unfolding take_from split_step grant_step merge_step settle_step
  go-on-fits t g =
      record {
        ends = λ r e a. other _ (λ i e. cc);
        finds = λ l a q. other _ (λ i e. cc);
        blocks = λ a n d. other _ (λ i e. cc);
        again = λ f. other _ (λ i e. cc);
        takes = λ b bs f q. other _ (λ i e. cc);
        splits = λ d h. other _ (λ i e. cc);
        grants = granted;
        settles = λ r e. other _ (λ i e. cc);
        merges = λ r e. other _ (λ i e. cc);
      }
    where
      same : (u : ℕ) → GoOn t ≡ GoOn u → u ≡ t
      same u e = cc

      granted :
          (call_of T.threads.calls t).stage ≡ DIVIDING → level_for s (call_of T.threads.calls t).size ≤ (call_of T.threads.calls t).level →
          FitsThen s T (GoOn t) (grant_step s T t (call_of T.threads.calls t))
      granted d h u i q e =
          rw (same u q)
          (rw (← named _ i e) (grants-fit s T.threads.device.clock (call_of T.threads.calls t) g.sound.shape (own-facts g) d h))
        where
          named : (j i : ℕ) → ◌≡◌ {A = Answered} (Ok (Granted j)) (Ok (Granted i)) → j ≡ i
          named j i e = cc

  steps-fit : (x : Step) → FitsThen s T x (step_on s T x)
  steps-fit =
      each_step (FitsThen s T) s T
      (record {
        stays = λ x r e u. other _ (λ i e. cc);
        builds = λ a. other _ (λ i e. cc);
        asks = λ t size ms g o h. other _ (λ i e. cc);
        goes = go-on-fits;
        gives = λ t j g o p a w. other _ (λ i e. cc);
        switches = λ t h w. other _ (λ i e. cc);
        ticks = λ v. other _ (λ i e. cc);
        whole = other _ (λ i e. cc);
        not-whole = other _ (λ i e. cc);
      })

-- whatever the tables, a go on that answers granted names a block that fits the size of the thread's call
pub granted-fits :
    (s : Shape) (T : State) (t i : ℕ) → (step_on s T (GoOn t)).answer ≡ Ok (Granted i) →
    Fits s (call_of T.threads.calls t).size i
granted-fits s T t i e = steps-fit s T (GoOn t) t i refl e
