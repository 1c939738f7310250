-- Each move of the table is made by some step.
-- Assumes nothing.
use Rattle.std.specs.Prelude.{◌≡◌, true, ℕ, ◌<◌}
use Rattle.std.proofs.Common.{sym, ◌∙◌}
use Rattle.rules.specs.Moves.{may_move}
use Rattle.proved_cases.specs.Made.{rows, Made, rows_right, moves-are-rows, made_in}

-- each move of the table is made by some step
pub each-move-made : (a b : ℕ) → a < 6 → b < 6 → may_move a b ≡ true → Made a b
each-move-made a b h k e = made_in a b rows rows_right (sym (moves-are-rows a b h k) ∙ e)
