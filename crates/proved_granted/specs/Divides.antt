-- A thread with a block in hand goes on: it splits until the block is of the level for its size, and is granted that block.
-- Assumes nothing.
use Rattle.std.specs.Prelude.{Ok, ◌≡◌, ℕ, ◌+◌, ◌*◌, ◌≤◌, ◌<◌}
use Rattle.std.proofs.Math.Path.{refl, ap}
use Rattle.std.proofs.Common.{arith}
use Rattle.shape.specs.declared.Shape.{Shape}
use Rattle.shape.specs.Limits.{parts}
use Rattle.shape.specs.Blocks.{id, level_for}
use Rattle.rules.specs.declared.Call.{Call}
use Rattle.rules.specs.declared.Answer.TheVariants.{Granted}
use Rattle.rules.specs.Numbers.{DIVIDING}
use Rattle.rules.specs.Tables.{State}
use Rattle.rules.specs.Steps.{Outcome, closed, holding, split_step, grant_step}
use Rattle.facts.specs.Running.{Running, splits, grants}
use Rattle.proved_granted.specs.Stepped.{go_on-runs}
use Rattle.proved_granted.specs.Until.{Ended, until}

-- a thread's call, dividing for this size with block b of level l in hand
abbrev pub dividing : ℕ → ℕ → ℕ → Call
dividing size l b = holding DIVIDING size l b

module _ (s : Shape) (T : State) (t size l b : ℕ) (g : Running s T t (dividing size l b)) where
  -- above its level the block is split, and its first part is in hand
  pub split_runs :
      l < level_for s size → Running s (split_step s T t (dividing size l b)).after t (dividing size (l + 1) (parts s * b))
  unfolding split_step
  split_runs h =
      go_on-runs s T t (dividing size l b) g _ (dividing size (l + 1) (parts s * b)) (ap (λ (o : Outcome). o.after) (splits g refl h)) refl refl

  -- at its level it is granted, and the call ends
  pub grant-runs : level_for s size ≤ l → Running s (grant_step s T t (dividing size l b)).after t closed
  unfolding grant_step
  grant-runs h =
      go_on-runs s T t (dividing size l b) g _ closed (ap (λ (o : Outcome). o.after) (grants g refl h)) refl refl

-- the call was granted a block of the level for its size, from tables of which P holds with that block in hand
pub record Grant (s : Shape) (t size : ℕ) (P : State → ℕ → Type 0) (o : Outcome) : Type 0 where
  pub tables : State
  pub block : ℕ
  pub runs : Running s tables t (dividing size (level_for s size) block)
  pub held : P tables block
  pub is : o ≡ grant_step s tables t (dividing size (level_for s size) block)

-- what holds of tables with a block in hand, and holds of the first part after each split, holds when the block is granted;
-- the thread goes on once for each level between, and once more
module _ (s : Shape) (t size : ℕ) (P : State → ℕ → ℕ → Type 0)
    (next :
    (T : State) (l b : ℕ) → Running s T t (dividing size l b) → l < level_for s size → P T l b →
    P (split_step s T t (dividing size l b)).after (l + 1) (parts s * b)) where
  -- n more go-on steps reach the grant from every block in hand that is less than n levels above its level
  abbrev pub Reaches : ℕ → Type 0
  Reaches n =
      (l b : ℕ) (o : Outcome) → Running s o.after t (dividing size l b) → P o.after l b → l ≤ level_for s size →
      level_for s size < l + n → Grant s t size (λ T b. P T (level_for s size) b) (until s t n o)

-- such a call has ended, with the answer granted
module _ (s : Shape) (t size : ℕ) (P : State → ℕ → Type 0) (o : Outcome) (r : Grant s t size P o) where
  pub grant-answer : o.answer ≡ Ok (Granted (id s (level_for s size) r.block))
  unfolding grant_step
  grant-answer = ap (λ (o : Outcome). o.answer) r.is

  pub grant-ended : Ended t o
  grant-ended =
      rw r.is
      (ap (λ (c : Call). c.stage) (grant-runs s r.tables t size (level_for s size) r.block r.runs (omega arith)).own)
