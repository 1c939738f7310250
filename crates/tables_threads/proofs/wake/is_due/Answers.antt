-- `is_due` meets its contract: it tests two fields of the call that `call_of` reads, as `due` does.
-- Assumes nothing.
use Rattle.rules.specs.Calls.{due}
use Rattle.tables_threads.proofs.wake.is_due.Goals as goal

pub returns : goal.returns
unfolding due
returns c = rw c.call_of-call.ensures
