-- `tables_pool::drop_first` meets its contract: the list's section is lent, and comes back without the first member.
-- Assumes nothing.
use native.Mathlib.Omega.{arith}
use lib.ListN.{drop, length-drop}
use Rattle.tables_pool.proofs.Members.{bounds, lent-members, lent_back}
use Rattle.tables_pool.proofs.drop_first.Goals as goal

pub slice_bounds-drop_first-end : goal.slice_bounds-drop_first-end
slice_bounds-drop_first-end c = omega (arith, bounds c.requires.0)

pub returns : goal.returns
returns c =
    lent_back
    c.requires.0
    c.section-from.ensures.0
    c.count.ensures.0
    (drop 1)
    (λ xs. omega (arith, length-drop 1 xs))
    c.drop_first.ensures
    (rw (
      length-drop,
      lent-members
          c.requires.0
          c.section-from.ensures.0
          c.count.ensures.0,
    ))
