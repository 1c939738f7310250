-- Threads that wake: which cells that alters, what it leaves, and that the queue's members have calls.
-- Assumes nothing.
use Rattle.std.specs.Prelude.{◌≡◌, refl, Bool, true, not, List, [], ◌∷◌, ◌++◌, ℕ, ◌+◌, ◌*◌, ◌-◌, ◌≤◌, ◌<◌, length, get_or, set, take, ltb}
use Rattle.std.proofs.Common.{◌∙◌, arith, length-set, get_or-set_other, ltb-true}
use Rattle.laws.specs.Tests.{every, both, every-at}
use Rattle.laws.specs.Lists.{keep}
use Rattle.shape.specs.declared.Shape.{Shape}
use Rattle.rules.specs.Numbers.{ASKED, CELLS}
use Rattle.rules.specs.Tables.{queue_of, put_queue, call_of}
use Rattle.rules.specs.Valid.{queue_ends, waiters_queued}
use Rattle.rules.specs.Steps.{wake}
use Rattle.rules.specs.Calls.{due}
use Rattle.facts.specs.Queue.{QueueReady, queue_ready, length-queue_of, queue_of-at, queue_of-next}

-- the queue's length fits, and each of its members has a call in the table
pub record MembersInside (calls queue : List ℕ) : Type 0 where
  pub fits : get_or queue 0 0 + 1 ≤ length queue
  pub inside : (i : ℕ) → i < get_or queue 0 0 → CELLS * get_or queue (i + 1) 0 + CELLS ≤ length calls

-- the rule on the queue's members, in the words of the code
pub members_inside :
    (s : Shape) (calls queue : List ℕ) → queue_ends s queue ≡ true → waiters_queued s calls queue ≡ true →
    length queue ≡ s.threads + 1 → length calls ≡ CELLS * s.threads → MembersInside calls queue
unfolding waiters_queued
members_inside s calls queue e w l m =
    go (queue_ready s queue e l) (both (every (length (queue_of queue)) member) _ w).0
  where
    member : ℕ → Bool
    member i = ltb (get_or (queue_of queue) i 0) s.threads

    go : QueueReady queue → every (length (queue_of queue)) member ≡ true → MembersInside calls queue
    go r inside = record { fits = fits; inside = at }
      where
        fits : get_or queue 0 0 + 1 ≤ length queue
        fits = omega arith

        at : (i : ℕ) → i < get_or queue 0 0 → CELLS * get_or queue (i + 1) 0 + CELLS ≤ length calls
        at i k =
            let n : length (queue_of queue) ≡ get_or queue 0 0 = length-queue_of queue fits in
            let h : get_or (queue_of queue) i 0 < s.threads = ltb-true _ _ (every-at _ member inside i (omega arith)) in
            omega (arith, queue_of-at queue i k)

-- the table alone decides: as long a table has the same members inside
pub inside-same :
    (calls others queue : List ℕ) → length others ≡ length calls → MembersInside calls queue → MembersInside others queue
inside-same calls others queue e h = record { fits = h.fits; inside = λ i k. omega (arith, h.inside i k) }

pub length-wake : (calls ts : List ℕ) → length (wake calls ts) ≡ length calls
unfolding wake
length-wake calls [] = refl
length-wake calls (t ∷ ts) = length-wake (set calls (CELLS * t) ASKED) ts ∙ length-set calls (CELLS * t) ASKED

pub wake-none : (calls : List ℕ) → wake calls [] ≡ calls
unfolding wake
wake-none calls = refl

-- one thread more becomes asked
pub wake-more : (calls ts : List ℕ) (t : ℕ) → wake calls (ts ++ (t ∷ [])) ≡ set (wake calls ts) (CELLS * t) ASKED
unfolding wake
wake-more calls [] t = refl
wake-more calls (u ∷ ts) t = wake-more (set calls (CELLS * u) ASKED) ts t

-- only stages change: what stands in a call's other cells stays
pub wake-cell :
    (calls ts : List ℕ) (t k : ℕ) → 0 < k → k < CELLS → get_or (wake calls ts) (CELLS * t + k) 0 ≡ get_or calls (CELLS * t + k) 0
unfolding wake
wake-cell calls [] t k h l = refl
wake-cell calls (u ∷ ts) t k h l =
    wake-cell (set calls (CELLS * u) ASKED) ts t k h l
    ∙ get_or-set_other calls (CELLS * u) (CELLS * t + k) ASKED 0 (omega arith)

-- so who is due stays
pub due-wake : (calls ts : List ℕ) (clock t : ℕ) → due (wake calls ts) clock t ≡ due calls clock t
unfolding due call_of
due-wake calls ts clock t = rw (wake-cell calls ts t 2 (omega arith) (omega arith), wake-cell calls ts t 3 (omega arith) (omega arith))

-- and so do those who stay in the queue
pub keep-wake :
    (calls ts : List ℕ) (clock : ℕ) (xs : List ℕ) →
    keep (λ t. not (due (wake calls ts) clock t)) xs ≡ keep (λ t. not (due calls clock t)) xs
keep-wake calls ts clock xs = simp due-wake

-- the next of the queue's members wakes
pub wake-next :
    (calls queue : List ℕ) (i : ℕ) → get_or queue 0 0 + 1 ≤ length queue → i < get_or queue 0 0 →
    set (wake calls (take i (queue_of queue))) (CELLS * get_or queue (i + 1) 0) ASKED ≡ wake calls (take (i + 1) (queue_of queue))
wake-next calls queue i fits h = rw (queue_of-next queue i fits h, wake-more)

-- what waking all leaves: every waiting thread is awake, the queue is empty, and their number is answered
pub record AllAwake (calls queue calls_after queue_after : List ℕ) (woken : ℕ) : Type 0 where
  pub awake : calls_after ≡ wake calls (queue_of queue)
  pub queued : queue_after ≡ put_queue (length queue - 1) []
  pub number : woken ≡ length (queue_of queue)

-- what a tick leaves: those due are awake and have left the queue, the rest keeping their order, and their number is answered
pub record DueAwake (calls queue : List ℕ) (clock : ℕ) (calls_after queue_after : List ℕ) (woken : ℕ) : Type 0 where
  pub awake : calls_after ≡ wake calls (keep (due calls clock) (queue_of queue))
  pub queued : queue_after ≡ put_queue (length queue - 1) (keep (λ t. not (due calls clock t)) (queue_of queue))
  pub number : woken ≡ length (keep (due calls clock) (queue_of queue))
