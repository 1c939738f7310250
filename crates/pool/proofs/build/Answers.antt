-- `pool::build` meets its contract: tables that passed the checks have an allowed shape and its lengths.
-- Assumes nothing.
use Rattle.pool.proofs.Checked.{tables-fit}
use Rattle.pool.proofs.build.Goals as goal

pub make_fresh-requires : goal.make_fresh-requires
make_fresh-requires c = tables-fit c.fitting.ensures c.in_ok-fitting.was
