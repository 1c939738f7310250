-- Cover answers the one undivided existing block over a byte.
-- Assumes nothing.
use Rattle.std.specs.Prelude.{◌≡◌, true, List, ℕ, ◌/◌, ◌<◌}
use Rattle.shape.specs.declared.Shape.{Shape}
use Rattle.shape.specs.Blocks.{size}
use Rattle.rules.specs.Tables.{state_at}
use Rattle.rules.specs.Questions.{undivided}

-- of all levels it alone has an undivided existing block over byte x
pub record CoverOne (s : Shape) (states : List ℕ) (x l : ℕ) : Type 0 where
  pub inside : l < s.levels
  pub whole : undivided (state_at s states l (x / size s l)) ≡ true
  pub once : (m : ℕ) → m < s.levels → undivided (state_at s states m (x / size s m)) ≡ true → m ≡ l
