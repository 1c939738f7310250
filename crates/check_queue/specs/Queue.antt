-- The tests of the queue's members and of the threads, which the rules of the queue ask of all.
-- Assumes nothing.
use Rattle.std.specs.Prelude.{Bool, List, ℕ, get_or, ltb, eqb}
use Rattle.laws.specs.Tests.{bit}
use Rattle.laws.specs.Lists.{times}
use Rattle.rules.specs.Numbers.{WAITING}
use Rattle.rules.specs.Tables.{queue_of, call_of}

-- the member is a thread of the shape
abbrev pub known : ℕ → List ℕ → ℕ → Bool
known threads queue i = ltb (get_or (queue_of queue) i 0) threads

-- the thread stands in the queue once where its call is waiting, and not otherwise
abbrev pub named : List ℕ → List ℕ → ℕ → Bool
named calls queue t = eqb (times t (queue_of queue)) (bit (eqb (call_of calls t).stage WAITING))
