-- The queue's members as the code goes through them: the places behind the first, as many as it says.
-- Assumes nothing.
use Rattle.std.proofs.Common.{◌≡◌, ◌∙◌, ap, List, ℕ, ◌+◌, ◌-◌, ◌<◌, arith, get_or, take, drop}
use Rattle.rules.specs.Tables.{queue_of}
use Rattle.facts.specs.Queue.{queue_of-at}

members : (queue : List ℕ) → take (get_or queue 0 0 + 1 - 1) (drop 1 queue) ≡ queue_of queue
unfolding queue_of
members queue = let e : get_or queue 0 0 + 1 - 1 ≡ get_or queue 0 0 = omega arith in rw e

pub member-at :
    (queue : List ℕ) (i : ℕ) → i < get_or queue 0 0 →
    get_or (take (get_or queue 0 0 + 1 - 1) (drop 1 queue)) i 0 ≡ get_or queue (i + 1) 0
member-at queue i h = ap (λ (xs : List ℕ). get_or xs i 0) (members queue) ∙ queue_of-at queue i h
