-- Marks, a bit a block: block b is bit b / row of byte b % row.
-- Assumes nothing.
use Rattle.std.specs.Prelude.{◌≡◌, Bool, not, ◌||◌, List, ℕ, ◌/◌, ◌%◌, ◌^◌, length, get_or, eqb}
use Rattle.shape.specs.Limits.{most_count}
use Rattle.check_lists.specs.Level.{free}

-- how many blocks one bit of each byte marks
abbrev pub row : ℕ
row = most_count / 8

-- this bit of byte i is set
abbrev pub marked_in : List ℕ → ℕ → ℕ → Bool
marked_in marks i bit = eqb (get_or marks i 0 / 2 ^ bit % 2) 1

-- block i of a part is marked by this bit, or isn't FREE
abbrev pub free_marked : List ℕ → List ℕ → ℕ → ℕ → Bool
free_marked states marks bit i = not (free states i) || marked_in marks i bit

-- block b of a level is marked
abbrev pub marked : List ℕ → ℕ → Bool
marked marks b = marked_in marks (b % row) (b / row)

-- or isn't FREE
abbrev pub all_marked : List ℕ → List ℕ → ℕ → Bool
all_marked states marks b = not (free states b) || marked marks b

-- no block is marked
pub record Unmarked (marks : List ℕ) : Type 0 where
  pub long : length marks ≡ row
  pub unset : (i : ℕ) → get_or marks i 0 ≡ 0
