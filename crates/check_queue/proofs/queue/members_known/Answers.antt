-- `check_queue::queue::members_known` meets its contract: the flag says of the members passed whether each is a thread of the shape.
-- Assumes nothing.
use Rattle.std.proofs.Common.{sym}
use Rattle.laws.specs.Tests.{every-none, every_more}
use Rattle.check_queue.proofs.queue.members_known.Goals as goal

pub loop-member-init : goal.loop-member-init
loop-member-init c = sym (every-none _)

pub loop-member-preserved : goal.loop-member-preserved
loop-member-preserved c = rw (every_more, c.loop-member.invariant, c.from.ensures, c.members-member-items.ensures)
