use Rattle.std.proofs.Common.{◌≡◌}
use Rattle.laws.specs.Tests.{every}
use Rattle.check_queue.specs.Queue.{known}
use Rattle.check_queue.proofs.queue.members_known.Given as goal

abbrev pub invariant-loop-member : goal.invariant-loop-member
invariant-loop-member l = l.ok ≡ every l.member-index (known l.s.threads l.queue)
