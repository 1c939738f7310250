-- What ends a listing: a bad record, refusal 1, and the script's end; behind every other record the run goes on.
-- Assumes nothing.
use Rattle.std.specs.Prelude.{Err, Some, None, ◌≡◌, List, [], ◌++◌, ℕ, suc, ◌+◌, ◌<◌, ◌≤◌, length}
use Rattle.std.proofs.Common.{append-nil}
use borrow.Author.Tests.{le-leb, lt-leb, eq-eqb, ne_eqb}
use Rattle.shape.specs.declared.Shape.{Shape}
use Rattle.rules.specs.declared.Refusal.TheVariants.{BadRecord}
use Rattle.rules.specs.declared.script.Record.{Record}
use Rattle.rules.specs.Answers.{number}
use Rattle.rules.specs.Tables.{State}
use Rattle.rules.specs.Script.{tag_at, read_at}
use Rattle.rules.specs.Listing.{record_step, shape_after, line, read_lines, lines}

module _ (most : ℕ) (xs : List ℕ) (n at : ℕ) (s : Shape) (T : State) where
  -- at the script's end nothing follows
  pub ends-behind : length xs ≤ at → lines (suc most) xs n at s T ≡ []
  unfolding lines
  ends-behind h = rw (le-leb (length xs) at h)

  module _ (inside : at < length xs) where
    -- a bad record's line is the last
    pub ends-bad : read_at xs at ≡ None → lines (suc most) xs n at s T ≡ line n (tag_at xs at) (Err (BadRecord at))
    unfolding lines read_lines
    ends-bad e = rw (lt-leb (length xs) at inside, e)

    module _ (r : Record) (next : ℕ) (e : read_at xs at ≡ Some (r, next)) where
      -- so is the line of a record that is refused with 1
      pub ends-refused :
          number (record_step s T r).answer ≡ 1 →
          lines (suc most) xs n at s T ≡ line n (tag_at xs at) (record_step s T r).answer
      unfolding lines read_lines
      ends-refused q = rw (lt-leb (length xs) at inside, e, eq-eqb _ _ q, append-nil)

      -- behind any other the next record's line follows
      pub goes_on :
          (number (record_step s T r).answer ≡ 1 → ⊥) →
          lines (suc most) xs n at s T
          ≡ line n (tag_at xs at) (record_step s T r).answer
          ++ lines most xs (n + 1) next (shape_after s r) (record_step s T r).after
      unfolding lines read_lines
      goes_on q = rw (lt-leb (length xs) at inside, e, ne_eqb _ _ q)
