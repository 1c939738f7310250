-- `check_queue::queue::times_queued` meets its contract: the thread is counted among the members passed.
-- Assumes nothing.
use Rattle.std.proofs.Common.{sym, ap, length, eqb, arith}
use Rattle.laws.specs.Tests.{bit-most}
use Rattle.laws.specs.Times.{times_none, times_more}
use Rattle.rules.specs.Tables.{queue_of}
use Rattle.check_queue.proofs.queue.times_queued.Goals as goal

pub loop-member-init : goal.loop-member-init
loop-member-init c = (omega arith, sym (times_none _))

pub loop-member-preserved : goal.loop-member-preserved
loop-member-preserved c = (
  omega (arith, c.loop-member.invariant.0, bit-most (eqb c.args.thread c.from.result)),
  rw (
    times_more c.args.thread (queue_of c.args.queue.now) c.loop-member.member-index
        (omega (arith, ap length c.members-member-items.ensures)),
    ← c.loop-member.invariant.1,
    ← c.members-member-items.ensures,
    c.from.ensures,
  ),
)
