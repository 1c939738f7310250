use Rattle.std.proofs.Common.{◌≡◌}
use Rattle.laws.specs.Tests.{every}
use Rattle.check_queue.specs.Queue.{named}
use Rattle.check_queue.proofs.queue.waiters_once.Given as goal

abbrev pub invariant-loop-t : goal.invariant-loop-t
invariant-loop-t l = l.ok ≡ every l.t (named l.calls l.queue)
