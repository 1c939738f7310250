-- `waiting_count` meets its contract: as many wait as the first place says (`length-queue_of`).
-- Assumes nothing.
use mathlib.Core.Path.{sym}
use Rattle.facts.specs.Queue.{length-queue_of}
use Rattle.tables_threads.proofs.queue.waiting_count.Goals as goal

pub returns : goal.returns
returns c = sym (length-queue_of c.args.queue.now c.requires)
