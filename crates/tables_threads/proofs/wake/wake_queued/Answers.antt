-- `wake_queued` meets its contract. The loop's invariant: the first members of the queue are awake (`wake-next`); those before its end are all
-- (`queue_of-all`). Assumes nothing.
use Rattle.std.proofs.Common.{sym, ◌∙◌, ap, arith}
use Rattle.rules.specs.Steps.{wake}
use Rattle.facts.specs.Queue.{length-queue_of, queue_of-all}
use Rattle.facts.specs.Wake.{wake-none, wake-next}
use Rattle.tables_threads.proofs.Members.{member-at}
use Rattle.tables_threads.proofs.wake.wake_queued.Goals as goal

pub loop-t-init : goal.loop-t-init
loop-t-init c = sym (wake-none _)

pub loop-t-preserved : goal.loop-t-preserved
loop-t-preserved c =
    let queue = c.args.queue.now in
    let i = c.loop-t.t-index in
    rw (c.loop-t.invariant, member-at queue i (omega arith)) (wake-next c.args.calls.now queue i c.requires.fits (omega arith))

pub returns : goal.returns
returns c = (
  c.loop-t.invariant ∙ ap (wake c.args.calls.now) (queue_of-all c.args.queue.now c.loop-t.t-index (omega arith)),
  sym (length-queue_of c.args.queue.now c.requires.fits),
)
