-- Map: blocks that are listed by their ids, one behind the other.
-- Assumes nothing.
use Rattle.std.specs.Prelude.{◌≡◌, true, List, ℕ, ◌+◌, ◌*◌, ◌-◌, ◌^◌, ◌≤◌, ◌<◌, length}
use Rattle.std.proofs.lemmas.List.Edits.{sets}
use Rattle.shape.specs.declared.Shape.{Shape}
use Rattle.shape.specs.Limits.{parts, allowed}
use Rattle.shape.specs.Blocks.{count, blocks}

-- the level that has this many levels below it
abbrev pub level_above : Shape → ℕ → ℕ
level_above s depth = s.levels - 1 - depth

-- n blocks of that level, from a block on, can be listed from a place on: if each is divided down to the deepest level, the ids are as many as
-- that level has blocks, at the most
pub record Listable (s : Shape) (table : List ℕ) (at below first n : ℕ) : Type 0 where
  pub allowed : allowed s ≡ true
  pub states : length table ≡ blocks s
  pub depth : below < s.levels
  pub block : first + n ≤ count s (level_above s below)
  pub place : at + n * parts s ^ below ≤ count s (s.levels - 1)

-- ids are listed in a row from a place on, as far as it has places; the next place is answered
pub record Listed (row : List ℕ) (at : ℕ) (ids : List ℕ) (next : ℕ) (after : List ℕ) : Type 0 where
  pub answered : next ≡ at + length ids
  pub written : after ≡ sets row at ids
