use Rattle.std.proofs.Common.{◌≡◌, take}
use Rattle.rules.specs.Tables.{queue_of}
use Rattle.rules.specs.Steps.{wake}
use Rattle.tables_threads.proofs.wake.wake_queued.Given as goal

abbrev pub invariant-loop-t : goal.invariant-loop-t
invariant-loop-t l = l.calls ≡ wake l.initial.calls (take l.t-index (queue_of l.queue))
