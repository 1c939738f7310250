-- `pool::whole` meets its contract: tables that passed the checks are the sound ones that the call asks for.
-- Assumes nothing.
use Rattle.pool.proofs.Checked.{sound}
use Rattle.pool.proofs.whole.Goals as goal

pub whole-requires : goal.whole-requires
whole-requires c = (_, _, _, _, sound c.checked.ensures c.in_ok-checked.was)
