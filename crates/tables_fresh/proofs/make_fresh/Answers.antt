-- `tables_fresh::make_fresh` meets its contract: each table is made that field of the fresh tables, and stays so.
-- Assumes nothing.
use Rattle.tables_fresh.proofs.Tables.{tables-fresh}
use Rattle.tables_fresh.proofs.make_fresh.Goals as goal

pub returns : goal.returns
returns c =
    tables-fresh _ _ c.requires.1 c.free_tops.ensures (c.fill.ensures.after (λ y h. h)) c.list_tops.ensures
    (c.fill-2.ensures.after (λ y h. h)) (c.fill-3.ensures.after (λ y h. h))
