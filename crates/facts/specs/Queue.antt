-- The queue's table: what a queue that is put holds, and what the rule on its end says of its places.
-- Assumes nothing.
use Rattle.std.specs.Prelude.{◌≡◌, Bool, true, ◌||◌, List, [], ◌∷◌, ◌++◌, ℕ, suc, ◌+◌, ◌-◌, ◌≤◌, ◌<◌, length, get_or, set, take, drop, leb, ltb, eqb}
use Rattle.std.proofs.Common.{◌∙◌, ap, append-nil, add_comm, add-one, sub-one, arith, length-take, length-drop, length-append, take-suc, take-take, take_all, length-take-le, get_or-take, get_or-drop, leb-true, le-ltb, eqb-true}
use Rattle.std.proofs.Math.Nat.{sub-zero}
use Rattle.std.proofs.Math.Seq.{drop-length}
use Rattle.laws.specs.Tests.{every, both, every-at}
use Rattle.laws.specs.Lists.{pad}
use Rattle.laws.specs.Keep.{length-pad, take-pad, pad-append}
use Rattle.shape.specs.declared.Shape.{Shape}
use Rattle.rules.specs.Tables.{queue_of, put_queue}
use Rattle.rules.specs.Valid.{queue_ends}

-- the queue's length stands in front and is no more than its places, and the places behind its end hold zero
pub record QueueReady (queue : List ℕ) : Type 0 where
  pub some : 1 ≤ length queue
  pub ends : get_or queue 0 0 ≤ length queue - 1
  pub behind : (i : ℕ) → get_or queue 0 0 < i → i < length queue → get_or queue i 0 ≡ 0

-- a queue that is put holds what was put
pub queue_of-put_queue : (n : ℕ) (xs : List ℕ) → length xs ≤ n → queue_of (put_queue n xs) ≡ xs
unfolding queue_of put_queue
queue_of-put_queue n xs h = take-pad n xs

pub length-put_queue : (n : ℕ) (xs : List ℕ) → length xs ≤ n → length (put_queue n xs) ≡ n + 1
unfolding put_queue
length-put_queue n xs h = omega (arith, length-pad n xs h)

-- as many wait as the first place says
pub length-queue_of : (queue : List ℕ) → get_or queue 0 0 + 1 ≤ length queue → length (queue_of queue) ≡ get_or queue 0 0
unfolding queue_of
length-queue_of queue h = length-take-le (get_or queue 0 0) (drop 1 queue) (rw length-drop (omega arith))

-- and the members stand behind it
pub queue_of-at : (queue : List ℕ) (i : ℕ) → i < get_or queue 0 0 → get_or (queue_of queue) i 0 ≡ get_or queue (i + 1) 0
unfolding queue_of
queue_of-at queue i h =
    get_or-take (get_or queue 0 0) (drop 1 queue) i 0 h
    ∙ get_or-drop 1 queue i 0
    ∙ ap (λ (k : ℕ). get_or queue k 0) (add_comm 1 i)

-- the first of them are the first behind it
pub take-queue_of : (queue : List ℕ) (i : ℕ) → i ≤ get_or queue 0 0 → take i (queue_of queue) ≡ take i (drop 1 queue)
unfolding queue_of
take-queue_of queue i h = take-take i (get_or queue 0 0) (drop 1 queue) h

-- one member more
pub queue_of-next :
    (queue : List ℕ) (i : ℕ) → get_or queue 0 0 + 1 ≤ length queue → i < get_or queue 0 0 →
    take (i + 1) (queue_of queue) ≡ take i (queue_of queue) ++ (get_or queue (i + 1) 0 ∷ [])
queue_of-next queue i fits h =
    let k : i < length (queue_of queue) = omega (arith, length-queue_of queue fits) in
    rw (← queue_of-at queue i h, add-one, take-suc (queue_of queue) i 0 k)

-- so the first of them, up to that many, are all
pub queue_of-all : (queue : List ℕ) (n : ℕ) → get_or queue 0 0 ≤ n → take n (queue_of queue) ≡ queue_of queue
unfolding queue_of
queue_of-all queue n h =
    take_all n (take (get_or queue 0 0) (drop 1 queue)) (omega (arith, length-take (get_or queue 0 0) (drop 1 queue)))

-- the rule on the queue's end, in the words of the code
pub queue_ready : (s : Shape) (queue : List ℕ) → queue_ends s queue ≡ true → length queue ≡ s.threads + 1 → QueueReady queue
unfolding queue_ends
queue_ready s queue e l = go (both _ _ e)
  where
    place : ℕ → Bool
    place i = ltb i (get_or queue 0 0) || eqb (get_or queue (1 + i) 0) 0

    holds : (i : ℕ) → get_or queue 0 0 ≤ i → place i ≡ true → get_or queue (1 + i) 0 ≡ 0
    holds i h q = eqb-true _ _ (rw (le-ltb i (get_or queue 0 0) h) at q)

    go : (leb (get_or queue 0 0) s.threads ≡ true) × (every s.threads place ≡ true) → QueueReady queue
    go (most, zeros) =
        let k : get_or queue 0 0 ≤ s.threads = leb-true _ _ most in
        record {
          some = omega arith;
          ends = omega arith;
          behind = λ i h m.
              let q : 1 + (i - 1) ≡ i = omega arith in
              rw q at (holds (i - 1) (omega arith) (every-at s.threads place zeros (i - 1) (omega arith)));
        }

-- what stands behind the end
pub behind-members :
    (queue : List ℕ) → QueueReady queue → (i : ℕ) → get_or queue 0 0 ≤ i → i < length (drop 1 queue) → get_or (drop 1 queue) i 0 ≡ 0
behind-members queue r i h k =
    get_or-drop 1 queue i 0 ∙ r.behind (1 + i) (omega arith) (omega (arith, length-drop 1 queue))

-- one more at the end: stored behind the others, and the length raised
pub joined :
    (queue : List ℕ) (t : ℕ) → QueueReady queue → get_or queue 0 0 + 1 < length queue →
    set (set queue (get_or queue 0 0 + 1) t) 0 (get_or queue 0 0 + 1) ≡ put_queue (length queue - 1) (queue_of queue ++ (t ∷ []))
unfolding queue_of put_queue
joined [] t r h = absurd (omega arith)
joined (n ∷ ys) t r h =
    let e : length (take n ys ++ (t ∷ [])) ≡ suc n = simp length-append (omega (arith, length-take-le n ys (omega arith))) in
    let m : suc (length ys) - 1 ≡ length ys = omega arith in
    rw (add-one, e, m) (ap (λ (r : List ℕ). suc n ∷ r) (pad-append n t ys (omega arith) (behind-members (n ∷ ys) r)))

-- every place cleared: nobody waits
pub emptied :
    (queue : List ℕ) → 1 ≤ length queue →
    pad (length queue) [] ++ drop (length queue) queue ≡ put_queue (length queue - 1) []
unfolding pad put_queue
emptied [] h = absurd (omega arith)
emptied (n ∷ ys) h = simp (drop-length, append-nil, sub-one, sub-zero)
