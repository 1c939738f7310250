use Rattle.std.proofs.Common.{◌≡◌, Bool, ◌&&◌, ◌||◌, List, ℕ, ◌+◌, get_or, eqb, ltb, leb}
use Rattle.laws.specs.Tests.{every}
use Rattle.check_queue.proofs.queue.queue_ends.Given as goal

-- the place is before the queue's end, or holds zero
abbrev pub ended : List ℕ → ℕ → Bool
ended queue k = ltb k (get_or queue 0 0) || eqb (get_or queue (1 + k) 0) 0

abbrev pub invariant-loop-i : goal.invariant-loop-i
invariant-loop-i l = l.ok ≡ (leb (get_or l.queue 0 0) l.fn.s.threads && every l.i (ended l.queue))
