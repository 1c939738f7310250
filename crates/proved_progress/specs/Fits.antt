-- Document 01, 'Calls and steps': a block that is granted is a block of the pool, of the deepest level whose size is at least the one asked.
-- Assumes nothing.
use Rattle.std.specs.Prelude.{Ok, ◌≡◌, ℕ, ◌≤◌, ◌<◌}
use Rattle.shape.specs.declared.Shape.{Shape}
use Rattle.shape.specs.Blocks.{size, count, id_pool, id_level, id_block, level_for}
use Rattle.rules.specs.declared.Answer.TheVariants.{Granted}
use Rattle.rules.specs.Tables.{State, call_of}
use Rattle.rules.specs.Steps.{Outcome}
use Rattle.history.specs.History.{GoOn, Step}

-- the id names a block of the pool, of the deepest level whose size is at least the one asked
pub record Fits (s : Shape) (asked i : ℕ) : Type 0 where
  pub pool : id_pool i ≡ s.pool
  pub level : id_level i ≡ level_for s asked
  pub inside : (id_level i < s.levels) × (id_block i < count s (id_level i))
  pub large : asked ≤ size s (id_level i)
  pub least : (m : ℕ) → m < s.levels → asked ≤ size s m → m ≤ id_level i

-- where the step grants, it is a go on, and the block fits the size of its thread's call
abbrev pub FitsThen : Shape → State → Step → Outcome → Type 0
FitsThen s T x o = (t i : ℕ) → x ≡ GoOn t → o.answer ≡ Ok (Granted i) → Fits s (call_of T.threads.calls t).size i
