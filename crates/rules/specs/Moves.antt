-- Document 01, 'Six states and their moves': of the 36 pairs of states these ten moves happen.
-- Assumes nothing.
use Rattle.std.specs.Prelude.{Bool, List, [], ◌∷◌, ℕ, ◌+◌, ◌*◌, get_or, eqb}

-- a row for each state that is left, a column for each that is reached: 1 where the move happens
abbrev pub moves : List ℕ
moves =
    0 ∷ 0 ∷ 0 ∷ 0 ∷ 1 ∷ 0
    ∷ 0 ∷ 0 ∷ 0 ∷ 1 ∷ 0 ∷ 1
    ∷ 0 ∷ 0 ∷ 0 ∷ 0 ∷ 1 ∷ 0
    ∷ 0 ∷ 1 ∷ 0 ∷ 0 ∷ 0 ∷ 1
    ∷ 0 ∷ 1 ∷ 0 ∷ 1 ∷ 0 ∷ 0
    ∷ 1 ∷ 0 ∷ 1 ∷ 0 ∷ 0 ∷ 0
    ∷ []

-- from this state to that one is a move that happens
abbrev pub may_move : ℕ → ℕ → Bool
may_move a b = eqb (get_or moves (6 * a + b) 0) 1
