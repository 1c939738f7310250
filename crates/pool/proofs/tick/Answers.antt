-- `pool::tick` meets its contract: tables that passed the checks are the sound ones that the call asks for.
-- Assumes nothing.
use Rattle.pool.proofs.Checked.{sound}
use Rattle.pool.proofs.tick.Goals as goal

pub tick-requires : goal.tick-requires
tick-requires c = (_, _, _, sound c.checked.ensures c.in_ok-checked.was)
