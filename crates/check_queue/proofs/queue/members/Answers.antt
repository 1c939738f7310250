-- `check_queue::queue::members` meets its contract: the members stand behind the first place.
-- Assumes nothing.
use Rattle.std.proofs.Common.{ℕ, ap, take, drop, arith}
use Rattle.rules.specs.Tables.{queue_of}
use Rattle.facts.specs.Queue.{length-queue_of}
use Rattle.check_queue.proofs.queue.members.Goals as goal

pub overflow_add-result : goal.overflow_add-result
overflow_add-result c = omega (arith, length-queue_of c.args.queue.now c.requires)

pub slice_bounds-result-end : goal.slice_bounds-result-end
slice_bounds-result-end c = omega (arith, length-queue_of c.args.queue.now c.requires)

pub returns : goal.returns
unfolding queue_of
returns c = ap (λ (n : ℕ). take n (drop 1 c.args.queue.now)) (omega (arith, length-queue_of c.args.queue.now c.requires, c.waiting_count.ensures))
