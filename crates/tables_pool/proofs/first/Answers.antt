-- `tables_pool::first` meets its contract: a list that isn't empty begins where its section does.
-- Assumes nothing.
use native.Mathlib.Omega.{arith}
use native.Mathlib.Nat.{add-zero}
use Rattle.tables_pool.proofs.Members.{bounds, first_member}
use Rattle.tables_pool.proofs.first.Goals as goal

pub bounds-lists-at : goal.bounds-lists-at
bounds-lists-at c = omega (arith, bounds c.requires.0)

pub returns : goal.returns
returns c =
    rw (first_member c.requires.0 c.requires.1, add-zero)
    (rw c.section-at.ensures.0)
