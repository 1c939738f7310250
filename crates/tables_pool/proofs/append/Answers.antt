-- `tables_pool::append` meets its contract: the block is stored behind the last member, and the length is one more.
-- Assumes nothing.
use native.Mathlib.Omega.{arith}
use Rattle.tables_pool.proofs.Members.{bounds, appended}
use Rattle.tables_pool.proofs.append.Goals as goal

pub bounds-lists-at : goal.bounds-lists-at
bounds-lists-at c = omega (arith, bounds c.requires.0)

pub overflow_cast-lists-2 : goal.overflow_cast-lists-2
overflow_cast-lists-2 c = omega (arith, bounds c.requires.0)

pub returns : goal.returns
returns c =
    rw c.section.ensures.0
    (appended c.requires.0 c.args.b c.requires.1)
