-- `pool::ask` meets its contract: tables that passed the checks are the sound ones that the call asks for.
-- Assumes nothing.
use Rattle.pool.proofs.Checked.{sound}
use Rattle.pool.proofs.ask.Goals as goal

pub ask-requires : goal.ask-requires
ask-requires c = (_, _, _, _, sound c.checked.ensures c.in_ok-checked.was)
