-- The queue while it is gone through: the members that pass stand in front, zeros behind them, and the rest as it was.
-- Assumes nothing.
use Rattle.std.specs.Prelude.{◌≡◌, Bool, true, false, ℕ, ◌+◌, ◌-◌, ◌≤◌, ◌<◌, length, set, take, drop}
use Rattle.std.proofs.Common.{sym, ◌∙◌, ap, add_comm, arith, length-drop, get_or-drop}
use mathlib.Core.List.{List, [], ◌∷◌, ◌++◌}
use Rattle.std.proofs.Math.Numerals.{add-one}
use Rattle.std.proofs.Math.ListN.{get_or}
use Rattle.laws.specs.Lists.{keep}
use Rattle.laws.specs.Keep.{sifted, sifted-none, sifted-at, sifted-fail, sifted-pass, sifted-all, length-sifted, keep-none, keep-take-most, keep-one-pass, keep-one-fail}
use Rattle.rules.specs.Tables.{queue_of, put_queue}
use Rattle.facts.specs.Queue.{QueueReady, behind-members, take-queue_of, queue_of-next, queue_of-all}

-- those of the first i members that pass
abbrev pub passed : (ℕ → Bool) → ℕ → List ℕ → List ℕ
passed f i queue = keep f (take i (queue_of queue))

pub passed_none : (f : ℕ → Bool) (queue : List ℕ) → passed f 0 queue ≡ []
passed_none f queue = keep-none f

pub passed-all : (f : ℕ → Bool) (i : ℕ) (queue : List ℕ) → get_or queue 0 0 ≤ i → passed f i queue ≡ keep f (queue_of queue)
passed-all f i queue h = ap (keep f) (queue_of-all queue i h)

pub passed-most : (f : ℕ → Bool) (i : ℕ) (queue : List ℕ) → length (passed f i queue) ≤ i
passed-most f i queue = keep-take-most f i (queue_of queue)

-- the queue when its first i members have been gone through
unfoldable pub sifted_queue : (ℕ → Bool) → ℕ → List ℕ → List ℕ
sifted_queue f i queue = get_or queue 0 0 ∷ sifted f i (drop 1 queue)

pub sifted_queue-none : (f : ℕ → Bool) (queue : List ℕ) → 1 ≤ length queue → sifted_queue f 0 queue ≡ queue
unfolding sifted_queue
sifted_queue-none f [] h = absurd (omega arith)
sifted_queue-none f (n ∷ ys) h = ap (λ (r : List ℕ). n ∷ r) (sifted-none f ys)

pub length-sifted_queue :
    (f : ℕ → Bool) (i : ℕ) (queue : List ℕ) → get_or queue 0 0 + 1 ≤ length queue → i ≤ get_or queue 0 0 →
    length (sifted_queue f i queue) ≡ length queue
unfolding sifted_queue
length-sifted_queue f i queue fits h =
    let l : length (drop 1 queue) ≡ length queue - 1 = length-drop 1 queue in
    omega (arith, length-sifted f i (drop 1 queue) (omega arith))

-- once all have been gone through, and their number is stored: those that pass are the queue
pub sifted_queue-all :
    (f : ℕ → Bool) (queue : List ℕ) → QueueReady queue →
    set (sifted_queue f (get_or queue 0 0) queue) 0 (length (keep f (queue_of queue)))
    ≡ put_queue (length queue - 1) (keep f (queue_of queue))
unfolding sifted_queue queue_of put_queue
sifted_queue-all f queue r =
    rw (sifted-all f (get_or queue 0 0) (drop 1 queue) (rw length-drop r.ends) (behind-members queue r), length-drop)

-- the next member, where it passes and where it fails
module _ (f : ℕ → Bool) (i : ℕ) (queue : List ℕ) (fits : get_or queue 0 0 + 1 ≤ length queue) (h : i < get_or queue 0 0) where
  pub passed-pass : f (get_or queue (i + 1) 0) ≡ true → passed f (i + 1) queue ≡ passed f i queue ++ (get_or queue (i + 1) 0 ∷ [])
  passed-pass e = rw (queue_of-next queue i fits h) (keep-one-pass f (take i (queue_of queue)) (get_or queue (i + 1) 0) e)

  pub passed-fail : f (get_or queue (i + 1) 0) ≡ false → passed f (i + 1) queue ≡ passed f i queue
  passed-fail e = rw (queue_of-next queue i fits h) (keep-one-fail f (take i (queue_of queue)) (get_or queue (i + 1) 0) e)

  member : get_or queue (i + 1) 0 ≡ get_or (drop 1 queue) i 0
  member = ap (λ (k : ℕ). get_or queue k 0) (add_comm i 1) ∙ sym (get_or-drop 1 queue i 0)

  inside : i < length (drop 1 queue)
  inside = omega (arith, length-drop 1 queue)

  pub sifted_queue-at : get_or (sifted_queue f i queue) (i + 1) 0 ≡ get_or queue (i + 1) 0
  unfolding sifted_queue
  sifted_queue-at = rw (member, add-one) (sifted-at f i (drop 1 queue) inside)

  pub sifted_queue-fail :
      f (get_or queue (i + 1) 0) ≡ false → set (sifted_queue f i queue) (i + 1) 0 ≡ sifted_queue f (i + 1) queue
  unfolding sifted_queue
  sifted_queue-fail e =
      rw add-one
      (ap (λ (r : List ℕ). get_or queue 0 0 ∷ r)
      (rw add-one at (sifted-fail f i (drop 1 queue) inside (rw member at e))))

  pub sifted_queue-pass :
      f (get_or queue (i + 1) 0) ≡ true →
      set (set (sifted_queue f i queue) (i + 1) 0) (length (passed f i queue) + 1) (get_or queue (i + 1) 0)
      ≡ sifted_queue f (i + 1) queue
  unfolding sifted_queue
  sifted_queue-pass e =
      rw (member, take-queue_of queue i (omega arith), add-one i, add-one (length (keep f (take i (drop 1 queue)))))
      (ap (λ (r : List ℕ). get_or queue 0 0 ∷ r)
      (rw add-one at (sifted-pass f i (drop 1 queue) inside (rw member at e))))
