-- A level's section of the lists by itself: its members in front, zeros behind them.
-- Assumes nothing.
use Rattle.std.specs.Prelude.{◌≡◌, Bool, not, List, ℕ, ◌/◌, ◌≤◌, ◌<◌, length, get_or, eqb}

-- a row whose members are its first n, with zeros behind them
pub record Ended (row : List ℕ) (n : ℕ) : Type 0 where
  pub most : n ≤ length row
  pub zeros : (i : ℕ) → n ≤ i → i < length row → get_or row i 0 ≡ 0

-- a block is none of the parts into which this parent is split
abbrev pub elsewhere : ℕ → ℕ → ℕ → Bool
elsewhere parts parent b = not (eqb (b / parts) parent)
