-- One step of a history, walked once: what holds of each way in which a step may end holds of the step.
-- Assumes nothing.
use Rattle.std.specs.Prelude.{Ok, Err, Some, ◌≡◌, Bool, true, false, not, ◌&&◌, ◌||◌, ℕ, ◌+◌, ◌≤◌, ◌<◌, ℤ, get_or, length, eqb}
use mathlib.Core.List.{List, [], ◌∷◌}
use Rattle.shape.specs.declared.Shape.{Shape}
use Rattle.shape.specs.Limits.{allowed}
use Rattle.shape.specs.Blocks.{place, level_for, id_level, id_block}
use Rattle.shape.specs.Time.{wait}
use Rattle.rules.specs.declared.Call.{Call}
use Rattle.rules.specs.declared.Refusal.{Refusal}
use Rattle.rules.specs.declared.Answer.TheVariants.{Opened, Found, Waiting, Switched, Ticked, Built}
use Rattle.rules.specs.declared.Answer.TheVariants as answers
use Rattle.rules.specs.Numbers.{ALLOCATED, CLOSED, ASKED, FOUND, DIVIDING, RELEASING, WAITING, NEVER, TIMED}
use Rattle.rules.specs.Answers.{refusal_number}
use Rattle.rules.specs.Tables.{State, lent, state_at, free_list, call_of, fresh}
use Rattle.rules.specs.Steps.{Outcome, outcome, only_call, closed, moved, blocked, deepest, take_from, split_step, grant_step, merges, merge_step, settle_step}
use Rattle.rules.specs.Refusals.{refused, id_outside}
use Rattle.rules.specs.Calls.{asked_call, given, only_device, ticked, due_at}
use Rattle.facts.specs.Lines.{Sound}
use Rattle.history.specs.History.{Step, Build, Ask, GoOn, Give, Switch, Tick, Whole}
use Rattle.history.specs.Listed.{entry, listed_for}
use Rattle.facts.specs.Running.{Running}

-- a refusal that closes the asker's call: no room, and timed out
abbrev pub closes : Refusal → Bool
closes r = eqb (refusal_number r) 14 || eqb (refusal_number r) 15

-- a refusal that is listed for the step and leaves all as it was
abbrev pub leaves : Step → Refusal → Bool
leaves x r = listed_for (entry x) (refusal_number r) && not (closes r)

-- each way in which a go on of thread t, whose call is c, may end, and what was tested on the way
pub record EachGoOn (P : Outcome → Type 0) (s : Shape) (T : State) (t : ℕ) (c : Call) : Type 0 where
  pub ends : (r : Refusal) → closes r ≡ true → c.stage ≡ ASKED → P (outcome (Err r) (only_call T t closed))
  pub finds :
      (l : ℕ) → c.stage ≡ ASKED → deepest T.pool.lists (level_for s c.size) ≡ Some l →
      P (outcome (Ok (Found l)) (only_call T t (moved c FOUND l)))
  pub blocks :
      c.stage ≡ ASKED → (c.wait ≡ NEVER → ⊥) → (c.wait ≡ TIMED → T.threads.device.clock < c.deadline) →
      P (outcome (Ok Waiting) (lent T.pool (blocked s T.threads t c)))
  pub again : c.stage ≡ FOUND → P (take_from s T t c [])
  pub takes :
      (b : ℕ) (bs : List ℕ) → c.stage ≡ FOUND → free_list s T.pool.lists c.level ≡ b ∷ bs → P (take_from s T t c (b ∷ bs))
  pub splits : c.stage ≡ DIVIDING → c.level < level_for s c.size → P (split_step s T t c)
  pub grants : c.stage ≡ DIVIDING → level_for s c.size ≤ c.level → P (grant_step s T t c)
  pub settles : c.stage ≡ RELEASING → merges s T.pool.states c.level c.block ≡ false → P (settle_step s T t c)
  pub merges : c.stage ≡ RELEASING → merges s T.pool.states c.level c.block ≡ true → P (merge_step s T t c)

-- each way in which a step may end: refused, or made by who may make it on sound tables
pub record EachStep (P : Step → Outcome → Type 0) (s : Shape) (T : State) : Type 0 where
  pub stays : (x : Step) (r : Refusal) → leaves x r ≡ true → (Sound s T → 3 < refusal_number r) → P x (refused T r)
  pub builds : allowed s ≡ true → P Build (outcome (Ok Built) (fresh s))
  pub asks :
      (t size : ℕ) (ms : ℤ) → Running s T t (call_of T.threads.calls t) → (call_of T.threads.calls t).stage ≡ CLOSED → size ≤ s.top_size →
      P (Ask t size ms) (outcome (Ok Opened) (only_call T t (asked_call T.threads.device.clock size (wait ms))))
  pub goes : (t : ℕ) → Running s T t (call_of T.threads.calls t) → EachGoOn (P (GoOn t)) s T t (call_of T.threads.calls t)
  pub gives :
      (t i : ℕ) → Running s T t (call_of T.threads.calls t) → (call_of T.threads.calls t).stage ≡ CLOSED → id_outside s i ≡ false →
      state_at s T.pool.states (id_level i) (id_block i) ≡ ALLOCATED →
      get_or T.pool.owners (place s (id_level i) (id_block i)) 0 ≡ t + 1 →
      P (Give t i) (outcome (Ok Opened) (given s T t (id_level i) (id_block i)))
  pub switches :
      (t : ℕ) → t < s.threads → ((call_of T.threads.calls t).stage ≡ WAITING → ⊥) →
      P (Switch t) (outcome (Ok Switched) (only_device T T.threads.device.clock (t + 1)))
  pub ticks :
      Sound s T →
      P Tick (outcome (Ok (Ticked (length (due_at T.threads (T.threads.device.clock + 1))))) (lent T.pool (ticked s T.threads)))
  pub whole : P Whole (outcome (Ok answers.Whole) T)
  pub not-whole : P Whole (outcome (Ok answers.NotWhole) T)
