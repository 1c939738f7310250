-- Four cells as one number.
-- Assumes nothing.
use Rattle.std.specs.Prelude.{List, ℕ, ◌+◌, ◌*◌, get_or}

-- four numbers below 256 as one, the first lowest
abbrev pub word : ℕ → ℕ → ℕ → ℕ → ℕ
word a b c d = ((d * 256 + c) * 256 + b) * 256 + a

-- four cells from a place on
unfoldable pub word_at : List ℕ → ℕ → ℕ
word_at cells at = word (get_or cells at 0) (get_or cells (at + 1) 0) (get_or cells (at + 2) 0) (get_or cells (at + 3) 0)
