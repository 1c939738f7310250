-- Map lists each undivided existing block once: a block's first byte lies in one that is listed, and only one such block lies over it.
-- Assumes nothing.
use Rattle.std.specs.Prelude.{List, ℕ}
use Rattle.proved_conserved.specs.Partition.{Among}

-- a block of the list, and the blocks before it and behind it
pub record Listed (ps : List (ℕ × ℕ)) (l b : ℕ) : Type 0 where
  pub before : List (ℕ × ℕ)
  pub behind : List (ℕ × ℕ)
  pub among : Among ps before l b behind
