-- `join` meets its contract: its two stores are the queue with one member more (`joined`), and nine places keep the length in a byte.
-- Assumes nothing.
use Rattle.facts.specs.Queue.{joined}
use Rattle.tables_threads.proofs.queue.join.Goals as goal

pub returns : goal.returns
returns c = joined c.args.queue.now c.args.t c.requires.queue_ready c.requires.queue_in_bounds.0
