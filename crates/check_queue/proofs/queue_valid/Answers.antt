-- `check_queue::queue_valid` meets its contract: a queue with a wrong end fails, whatever its members are.
-- Assumes nothing.
use mathlib.Core.Path.{sym, ◌∙◌}
use native.Mathlib.Omega.{arith}
use Rattle.facts.specs.Given.{length-queue_of}
use Rattle.check_queue.proofs.queue_valid.Goals as goal

pub waiters_queued-requires : goal.waiters_queued-requires
waiters_queued-requires c = (
  c.requires.0,
  omega (arith, (length-queue_of c.args.s c.args.queue.now c.requires.1 (sym c.queue_ends.ensures ∙ c.if-not-queue_ends.false)).1),
)
