-- A thread that runs on sound tables goes on with a block in hand. Dividing, it splits until the block is of the level for its size and is
-- granted it then; releasing, it merges one level up or settles. What is left of the call falls by one with each of its own go-on steps.
-- Assumes nothing.
use Rattle.std.specs.Prelude.{Ok, ◌≡◌, refl, Bool, true, false, cond, ◌⊎◌, ℕ, ◌+◌, ◌*◌, ◌-◌, ◌/◌, ◌≤◌, ◌<◌, length, ltb}
use Rattle.std.proofs.Common.{sym, ◌∙◌, inl, inr, arith, ltb-true}
use Rattle.laws.specs.Tests.{both}
use Rattle.shape.specs.declared.Shape.{Shape}
use Rattle.shape.specs.Limits.{parts}
use Rattle.shape.specs.Blocks.{id, level_for}
use Rattle.rules.specs.declared.Call.{Call}
use Rattle.rules.specs.declared.Answer.TheVariants.{Split, Granted, Merged, Settled}
use Rattle.rules.specs.Numbers.{DIVIDING, RELEASING}
use Rattle.rules.specs.Tables.{State, queue_of, call_of, put_call}
use Rattle.facts.specs.Given.{length-facts}
use Rattle.rules.specs.Steps.{Outcome, closed, holding, split_step, grant_step, merges, merge_step, settle_step, release_step}
use Rattle.rules.specs.Calls.{go_on}
use Rattle.facts.specs.Running.{Running, splits, grants, releases}
use Rattle.proved_valid.specs.OneCall.{put-mine}
use Rattle.proved_valid.specs.Runs.{not-queued}
use Rattle.proved_valid.specs.Woken.{wake-other}
use Rattle.rules.specs.Answers.{Answered}

-- how many splits lie before the grant
abbrev pub left_of : Shape → Call → ℕ
left_of s c = level_for s c.size - c.level

-- thread t's call and the answer as a go on leaves them
abbrev pub Next : Outcome → ℕ → Call → Answered → Type 0
Next o t c a = (o.answer ≡ a) × (call_of o.after.threads.calls t ≡ c)

module _ {s : Shape} {T : State} {t : ℕ} {c : Call} (g : Running s T t c) where
  mine : (d : Call) → call_of (put_call T.threads.calls t d) t ≡ d
  mine d = put-mine s T.threads.calls t d (length-facts s T g.sound.lengths).calls g.thread

  -- above its level the block is split, and the call is dividing for the same size one level deeper
  pub own-splits :
      c.stage ≡ DIVIDING → c.level < level_for s c.size →
      Next (go_on s T t) t (holding DIVIDING c.size (c.level + 1) (parts s * c.block))
      (Ok (Split (id s (c.level + 1) (parts s * c.block))))
  unfolding split_step
  own-splits d h = rw (splits g d h) (refl, mine _)

  -- at its level the block is granted, and the call is closed
  pub own-grants :
      c.stage ≡ DIVIDING → level_for s c.size ≤ c.level → Next (go_on s T t) t closed (Ok (Granted (id s c.level c.block)))
  unfolding grant_step
  own-grants d h = rw (grants g d h) (refl, mine _)

  -- so what is left falls by one with each own go on
  pub left-falls :
      c.stage ≡ DIVIDING → (n : ℕ) → left_of s c ≡ n + 1 → (d : Call) → call_of (go_on s T t).after.threads.calls t ≡ d →
      (d.stage ≡ DIVIDING) × (d.size ≡ c.size) × (left_of s d ≡ n)
  left-falls e n k d q = rw (sym q ∙ (own-splits e (omega (arith, k))).1) (refl, refl, omega (arith, k))

  -- releasing, the block merges and the call is releasing one level up, or it settles and the call is closed
  pub own-releases :
      c.stage ≡ RELEASING →
      ((0 < c.level)
      × Next (go_on s T t) t (holding RELEASING 0 (c.level - 1) (c.block / parts s))
      (Ok (Merged (id s (c.level - 1) (c.block / parts s)))))
      ⊎ Next (go_on s T t) t closed (Ok (Settled (length (queue_of T.threads.queue))))
  unfolding release_step merge_step settle_step merges
  own-releases d = rw (releases g d) (pick (merges s T.pool.states c.level c.block) refl)
    where
      asleep : call_of (settle_step s T t c).after.threads.calls t ≡ closed
      asleep = wake-other (put_call T.threads.calls t closed) (queue_of T.threads.queue) t (not-queued g) ∙ mine closed

      pick :
          (b : Bool) → merges s T.pool.states c.level c.block ≡ b →
          ((0 < c.level)
          × Next (cond b (merge_step s T t c) (settle_step s T t c)) t (holding RELEASING 0 (c.level - 1) (c.block / parts s))
          (Ok (Merged (id s (c.level - 1) (c.block / parts s)))))
          ⊎ Next (cond b (merge_step s T t c) (settle_step s T t c)) t closed (Ok (Settled (length (queue_of T.threads.queue))))
      pick true e = inl (ltb-true _ _ (both (ltb 0 c.level) _ e).0, (refl, mine _))
      pick false e = inr (refl, asleep)
