-- `tables_fresh::free_tops` meets its contract: a fill of all cells, and one of the first cells over it.
-- Assumes nothing.
use Rattle.std.proofs.Common.{sym, length-take-le}
use Rattle.tables_fresh.proofs.Tables.{tops-inside, tops-free}
use Rattle.tables_fresh.proofs.free_tops.Goals as goal

pub slice_bounds-fill-end : goal.slice_bounds-fill-end
slice_bounds-fill-end c = tops-inside c.args.s c.requires.0 c.requires.1 c.fill.ensures.len

pub slice_bounds-fill-end-2 : goal.slice_bounds-fill-end-2
slice_bounds-fill-end-2 c = sym (length-take-le _ _ (tops-inside c.args.s c.requires.0 c.requires.1 c.fill.ensures.len))

pub returns : goal.returns
returns c =
    tops-free c.args.s c.requires.1 (c.fill.ensures.after (λ y h. h))
    (length-take-le _ _ (tops-inside c.args.s c.requires.0 c.requires.1 c.fill.ensures.len))
    (c.fill-2.ensures.after (λ y h. h))
