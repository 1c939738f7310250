-- The lines of a script's records from an offset on, in a buffer with room for them.
-- Assumes nothing.
use Rattle.std.specs.Prelude.{Some, ◌≡◌, true, List, ℕ, ◌+◌, ◌*◌, ◌/◌, ◌≤◌, ◌<◌, length}
use Rattle.laws.specs.Sets.{Put}
use Rattle.shape.specs.declared.Shape.{Shape}
use Rattle.shape.specs.Limits.{allowed, most_blocks, most_levels, most_threads}
use Rattle.rules.specs.declared.script.Record.TheVariants.{Pool}
use Rattle.rules.specs.Numbers.{MOST-BYTES, CELLS}
use Rattle.rules.specs.Tables.{State, fresh}
use Rattle.facts.specs.Given.{LengthFacts}
use Rattle.facts.specs.Lines.{Sound}
use Rattle.rules.specs.Script.{read_at}
use Rattle.rules.specs.Listing.{lines, no_shape}
use Rattle.script_lines.specs.Buffer.{LINE-MOST}

-- the bytes of the header, and the fewest of a record
abbrev pub HEADER-BYTES : ℕ
HEADER-BYTES = 20

abbrev pub RECORD-LEAST : ℕ
RECORD-LEAST = 3

-- the most bytes that a listing takes: the header, and a line for each record that the longest script has room for and for one that is cut
abbrev pub LISTING-MOST : ℕ
LISTING-MOST = HEADER-BYTES + LINE-MOST * (MOST-BYTES / RECORD-LEAST + 1)

-- what running the records from an offset on needs: they stand behind the shape, the tables are sound, the lines have room
pub record Begun (xs : List ℕ) (n at : ℕ) (s : Shape) (T : State) (out : List ℕ) (end : ℕ) : Type 0 where
  pub short : length xs ≤ MOST-BYTES
  pub behind : 0 < n
  pub counted : RECORD-LEAST * n ≤ at
  pub inside : at ≤ length xs
  pub sound : Sound s T
  pub room : end ≤ HEADER-BYTES + LINE-MOST * n
  pub long : LISTING-MOST ≤ length out

-- the lines of the records from an offset on are stored from a place on, up to the last place
pub record Listed (xs : List ℕ) (n at : ℕ) (s : Shape) (T : State) (out : List ℕ) (end : ℕ) (after : List ℕ) (last : ℕ) : Type 0 where
  pub put : (most : ℕ) → length xs ≤ at + most → Put out end (lines most xs n at s T) last after
  pub within : last ≤ LISTING-MOST

-- all lines of a script that is run: before its shape there is no pool
abbrev pub AllListed : List ℕ → List ℕ → ℕ → List ℕ → ℕ → Type 0
AllListed xs out end after last = Listed xs 0 0 no_shape (fresh no_shape) out end after last

-- a script that is run, with the header written and room for the lines
pub record Titled (xs out : List ℕ) (end : ℕ) : Type 0 where
  pub some : 0 < length xs
  pub short : length xs ≤ MOST-BYTES
  pub room : end ≤ HEADER-BYTES
  pub long : LISTING-MOST ≤ length out

-- and whose first record is this shape
pub record Headed (xs : List ℕ) (next : ℕ) (s : Shape) (out : List ℕ) (end : ℕ) : Type 0 where
  pub titled : Titled xs out end
  pub first : read_at xs 0 ≡ Some ((Pool s), next)

-- tables at least as long as those of the largest shape
pub record Largest (T : State) : Type 0 where
  pub states : most_blocks ≤ length T.pool.states
  pub owners : most_blocks ≤ length T.pool.owners
  pub lists : most_levels + most_blocks ≤ length T.pool.lists
  pub calls : CELLS * most_threads ≤ length T.threads.calls
  pub queue : most_threads + 1 ≤ length T.threads.queue

-- a script whose first record is this allowed shape, and tables of its lengths
pub record Lent (xs : List ℕ) (next : ℕ) (s : Shape) (T : State) (out : List ℕ) (end : ℕ) : Type 0 where
  pub headed : Headed xs next s out end
  pub shape : allowed s ≡ true
  pub lengths : LengthFacts s T
