use Rattle.std.proofs.Common.{◌≡◌, ◌≤◌, take}
use Rattle.laws.specs.Lists.{times}
use Rattle.rules.specs.Tables.{queue_of}
use Rattle.check_queue.proofs.queue.times_queued.Given as goal

abbrev pub invariant-loop-member : goal.invariant-loop-member
invariant-loop-member l = (l.found ≤ l.member-index) × (l.found ≡ times l.thread (take l.member-index (queue_of l.queue)))
