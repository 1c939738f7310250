-- The wait queue: a list that names each waiting thread once and nothing else may be put as the queue.
-- Assumes nothing.
use Rattle.std.specs.Prelude.{◌≡◌, ◌||◌, List, ◌∷◌, get_or, ltb}
use Rattle.std.proofs.Math.Bool.{true}
use Prim.Native.Nat.{ℕ, suc, ◌+◌, ◌≤◌, ◌<◌}
use Rattle.std.proofs.Math.Decide.{dec_lt}
use native.Mathlib.Omega.{arith}
use Rattle.std.proofs.Math.ListN.{length, get_or-eq_default}
use Rattle.std.proofs.Math.Dec.{eqb}
use Rattle.std.proofs.Common.{le-leb, lt-ltb, le-ltb, eqb-true, eq-eqb}
use Rattle.laws.specs.Tests.{bit, every, every-at, every_of, tally-most, both, both_of}
use Rattle.laws.specs.Lists.{times, pad}
use Rattle.laws.specs.Sums.{members-counted}
use Rattle.laws.specs.Rows.{get_or-pad}
use Rattle.shape.specs.declared.Shape.{Shape}
use Rattle.rules.specs.Numbers.{WAITING}
use Rattle.rules.specs.Tables.{queue_of, put_queue, call_of}
use Rattle.rules.specs.Valid.{queue_ends, waiters_queued}
use Rattle.facts.specs.Queue.{queue_of-put_queue, length-put_queue}
use Rattle.laws.specs.Changes.{none-behind, all-below}

-- a list names each waiting thread once and nothing else
pub record Named (s : Shape) (calls xs : List ℕ) : Type 0 where
  pub each : (t : ℕ) → t < s.threads → times t xs ≡ bit (eqb (call_of calls t).stage WAITING)
  pub others : (t : ℕ) → s.threads ≤ t → times t xs ≡ 0

-- as the queue does
pub named : (s : Shape) (calls queue : List ℕ) → waiters_queued s calls queue ≡ true → Named s calls (queue_of queue)
unfolding waiters_queued
named s calls queue e =
    let f = both (every (length (queue_of queue)) (λ i. ltb (get_or (queue_of queue) i 0) s.threads)) _ e in
    record {
      each = λ t h. eqb-true _ _ (every-at s.threads _ f.1 t h);
      others = none-behind s.threads (queue_of queue) f.0;
    }

pub waiters-of : (s : Shape) (calls queue : List ℕ) → Named s calls (queue_of queue) → waiters_queued s calls queue ≡ true
unfolding waiters_queued
waiters-of s calls queue n =
    both_of _ _ (all-below s.threads (queue_of queue) n.others)
    (every_of s.threads _ (λ t h. eq-eqb _ _ (n.each t h)))

module _ {s : Shape} {calls xs : List ℕ} (n : Named s calls xs) where
  -- it is no longer than there are threads
  pub named-most : length xs ≤ s.threads
  named-most =
      omega (
        arith,
        members-counted s.threads (λ t. eqb (call_of calls t).stage WAITING) xs (all-below s.threads xs n.others)
            n.each,
        tally-most s.threads (λ t. eqb (call_of calls t).stage WAITING),
      )

  pub queue-put : waiters_queued s calls (put_queue s.threads xs) ≡ true
  queue-put = waiters-of s calls (put_queue s.threads xs) (rw (queue_of-put_queue s.threads xs named-most) n)

  pub queue-ends : queue_ends s (put_queue s.threads xs) ≡ true
  unfolding queue_ends put_queue
  queue-ends =
      both_of _ _ (le-leb _ _ named-most) (every_of s.threads _ (λ i h. at i (dec_lt i (length xs))))
    where
      at :
          (i : ℕ) → Dec (i < length xs) →
          (ltb i (length xs) || eqb (get_or (length xs ∷ pad s.threads xs) (1 + i) 0) 0) ≡ true
      at i (yes d) = rw (lt-ltb i (length xs) d)
      at i (no d) =
          let e : 1 + i ≡ suc i = omega arith in
          rw (le-ltb i (length xs) (omega arith), e, get_or-pad s.threads xs i, get_or-eq_default xs 0 {n = i} (omega arith))

  pub queue_is_long : length (put_queue s.threads xs) ≡ s.threads + 1
  queue_is_long = length-put_queue s.threads xs named-most
