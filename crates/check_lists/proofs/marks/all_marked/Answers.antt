-- `check_lists::marks::all_marked` meets its contract: the flag is the test of every block of the rows passed.
-- Assumes nothing.
use mathlib.Core.Path.{refl, ◌∙◌}
use Rattle.check_lists.proofs.Marking.{rows_none, rows_fit, rows_more, rows_all}
use Rattle.check_lists.proofs.marks.all_marked.Goals as goal

pub loop-bit-init : goal.loop-bit-init
loop-bit-init c =
    let e = c.into_iter-bit-iterator.ensures.into_iter_gives in
    rw (e, c.enumerate-bit-items.ensures.source, c.enumerate-bit-items.ensures.count, c.chunks.ensures.rest, c.chunks.ensures.size)
    (rows_none _ _, refl)

pub row_marked-ok-requires : goal.row_marked-ok-requires
row_marked-ok-requires c =
    let cut = c.in-Some.ensures.steps.0 in
    rw c.in-Some.ensures.steps.1
    (rows_fit _ c.loop-bit.invariant.0 c.requires c.loop-bit.invariant.1 cut.1.1 cut.1.2)

pub loop-bit-preserved : goal.loop-bit-preserved
loop-bit-preserved c =
    let cut = c.in-Some.ensures.steps.0 in (
      rw c.in-Some.ensures.steps.2
          (rows_more _ _ c.loop-bit.invariant.0 c.loop-bit.invariant.1 cut.1.0 cut.1.1 cut.1.2
          (rw (← c.in-Some.ensures.steps.1) c.row_marked-ok.ensures)),
      cut.0 ∙ c.loop-bit.invariant.1,
    )

pub returns : goal.returns
returns c = rows_all c.loop-bit.invariant.0 c.in-None.ensures.steps.0.1.0
