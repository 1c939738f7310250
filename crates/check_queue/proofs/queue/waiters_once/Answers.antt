-- `check_queue::queue::waiters_once` meets its contract: the flag says of the threads passed whether each stands in the queue as often as
-- it waits.
-- Assumes nothing.
use Rattle.std.proofs.Common.{sym}
use Rattle.laws.specs.Tests.{every-none, every_more}
use Rattle.check_queue.proofs.queue.waiters_once.Goals as goal

pub loop-t-init : goal.loop-t-init
loop-t-init c = sym (every-none _)

pub loop-t-preserved : goal.loop-t-preserved
loop-t-preserved c =
    rw (every_more, ← c.call_of-waits.ensures, ← c.times_queued.ensures, ← c.from.ensures, c.loop-t.invariant)
