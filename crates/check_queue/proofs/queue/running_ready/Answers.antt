-- `check_queue::queue::running_ready` meets its contract: nobody runs, or a number outside fails, or the thread's stage decides.
-- Assumes nothing.
use borrow.Author.Tests.{eq-eqb, ne_eqb, le-leb, lt-leb}
use Rattle.rules.specs.Valid.{running_ready}
use Rattle.check_queue.proofs.queue.running_ready.Goals as goal

pub returns-then-running-eq0 : goal.returns-then-running-eq0
unfolding running_ready
returns-then-running-eq0 c = rw (eq-eqb _ _ c.if-running-eq0.true)

pub returns-then-s-running : goal.returns-then-s-running
unfolding running_ready
returns-then-s-running c = rw (ne_eqb _ _ c.if-running-eq0.false, lt-leb _ _ c.if-s-running.true)

pub returns : goal.returns
unfolding running_ready
returns c = rw (ne_eqb _ _ c.if-running-eq0.false, le-leb _ _ c.if-s-running.false, c.call_of.ensures)
