-- `check_queue::queue::waiters_queued` meets its contract: its two tests are the definition's.
-- Assumes nothing.
use Rattle.rules.specs.Valid.{waiters_queued}
use Rattle.check_queue.proofs.queue.waiters_queued.Goals as goal

pub returns : goal.returns
unfolding waiters_queued
returns c = cc
