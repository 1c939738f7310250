-- `pool::give_back` meets its contract: tables that passed the checks are the sound ones that the call asks for.
-- Assumes nothing.
use Rattle.pool.proofs.Checked.{sound}
use Rattle.pool.proofs.give_back.Goals as goal

pub give_back-requires : goal.give_back-requires
give_back-requires c = (_, _, sound c.checked.ensures c.in_ok-checked.was)
