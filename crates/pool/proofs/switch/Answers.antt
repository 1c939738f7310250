-- `pool::switch` meets its contract: tables that passed the checks are the sound ones that the call asks for.
-- Assumes nothing.
use Rattle.pool.proofs.Checked.{sound}
use Rattle.pool.proofs.switch.Goals as goal

pub switch-requires : goal.switch-requires
switch-requires c = (_, _, _, _, sound c.checked.ensures c.in_ok-checked.was)
