-- What valid tables give to a step: the state of the block in hand, and room where a block or a thread is appended.
-- Assumes nothing.
use Rattle.std.specs.Prelude.{◌≡◌, refl, Bool, true, false, not, ◌||◌, List, ℕ, ◌+◌, ◌*◌, ◌-◌, ◌≤◌, ◌<◌, length, get_or, drop, ltb, eqb}
use Rattle.std.proofs.Common.{sym, true≢false, arith, length-drop, length-take-le, leb-true, ltb-true, eqb-true, eq-eqb, ne_eqb}
use Rattle.std.specs.Bool.{beq}
use Rattle.std.proofs.lemmas.Bool.{false≢true}
use Rattle.laws.specs.Tests.{bit, every, every-at, both}
use Rattle.laws.specs.Lists.{times}
use Rattle.laws.specs.Sums.{members-counted, tally-room, tally-some}
use Rattle.shape.specs.declared.Shape.{Shape}
use Rattle.shape.specs.Limits.{parts}
use Rattle.shape.specs.Blocks.{count, blocks, level_for}
use Rattle.shape.specs.Laws.{level_for-inside}
use Rattle.rules.specs.declared.Call.{Call}
use Rattle.rules.specs.Numbers.{FREE, DIVIDED, NOEXIST, FOUND, WAITING, CELLS}
use Rattle.rules.specs.Tables.{State, lengths, state_at, free_list, queue_of, call_of}
use Rattle.rules.specs.Valid.{uses_block, fields_used, hand_inside, in_hand, one_to_one, target_kept, size_kept, found_kept, deadline_kept, may_wait, call_kept, calls_kept, parts_exist, list_ends, free_listed, queue_ends, waiters_queued}
use Rattle.facts.specs.Lines.{ValidFacts}
use Rattle.facts.specs.Lists.{length-free_list}

-- the lengths of the tables
pub record LengthFacts (s : Shape) (T : State) : Type 0 where
  pub states : length T.pool.states ≡ blocks s
  pub owners : length T.pool.owners ≡ blocks s
  pub lists : length T.pool.lists ≡ s.levels + blocks s
  pub calls : length T.threads.calls ≡ CELLS * s.threads
  pub queue : length T.threads.queue ≡ s.threads + 1

pub length-facts : (s : Shape) (T : State) → lengths s T ≡ true → LengthFacts s T
unfolding lengths
length-facts s T e =
    let f1 = both _ _ e in
    let f2 = both _ _ f1.0 in
    let f3 = both _ _ f2.0 in
    let f4 = both _ _ f3.0 in
    record {
      states = eqb-true _ _ f4.0;
      owners = eqb-true _ _ f4.1;
      lists = eqb-true _ _ f3.1;
      calls = eqb-true _ _ f2.1;
      queue = eqb-true _ _ f1.1;
    }

-- what is said of one call by itself
pub record CallFacts (s : Shape) (clock : ℕ) (c : Call) : Type 0 where
  pub fields : fields_used c ≡ true
  pub hand : hand_inside s c ≡ true
  pub target : target_kept s c ≡ true
  pub size : size_kept s c ≡ true
  pub found : found_kept s c ≡ true
  pub deadline : deadline_kept clock c ≡ true
  pub waits : may_wait c ≡ true

pub call_facts :
    (s : Shape) (clock : ℕ) (calls : List ℕ) → calls_kept s clock calls ≡ true → (t : ℕ) → t < s.threads →
    CallFacts s clock (call_of calls t)
unfolding calls_kept call_kept
call_facts s clock calls e t h =
    let f1 = both _ _ (every-at s.threads _ e t h) in
    let f2 = both _ _ f1.0 in
    let f3 = both _ _ f2.0 in
    let f4 = both _ _ f3.0 in
    let f5 = both _ _ f4.0 in
    let f6 = both _ _ f5.0 in
    record {
      fields = f6.0;
      hand = f6.1;
      target = f5.1;
      size = f4.1;
      found = f3.1;
      deadline = f2.1;
      waits = f1.1;
    }

-- a disjunction whose first side is the negation of what holds
implied : (a b : Bool) → (not a || b) ≡ true → a ≡ true → b ≡ true
implied true b e h = e
implied false b e h = absurd (false≢true h)

-- the block in hand is a block of the shape
pub hand-inside :
    (s : Shape) (c : Call) → hand_inside s c ≡ true → uses_block c ≡ true →
    (c.level < s.levels) × (c.block < count s c.level)
unfolding hand_inside
hand-inside s c e h =
    let f = both _ _ (implied (uses_block c) _ e h) in
    (ltb-true _ _ f.0, ltb-true _ _ f.1)

-- the found level is a level of the shape
pub found_inside :
    (s : Shape) (c : Call) → 1 ≤ s.levels → found_kept s c ≡ true → c.stage ≡ FOUND → c.level < s.levels
unfolding found_kept
found_inside s c k e h =
    omega (
      arith,
      leb-true c.level (level_for s c.size) (implied (eqb c.stage FOUND) _ e (eq-eqb _ _ h)),
      level_for-inside s c.size k,
    )

-- the block in hand is in the state that corresponds to the test that the call passes
pub hand-state :
    (st : ℕ) (test : Call → Bool) (s : Shape) (states calls : List ℕ) → one_to_one st test s states calls ≡ true → (t : ℕ) →
    t < s.threads → test (call_of calls t) ≡ true → (call_of calls t).level < s.levels →
    (call_of calls t).block < count s (call_of calls t).level →
    state_at s states (call_of calls t).level (call_of calls t).block ≡ st
unfolding one_to_one
hand-state st test s states calls e t h g l b =
    eqb-true _ _
    (once (eqb (state_at s states (call_of calls t).level (call_of calls t).block) st)
    (eqb-true _ _
    (every-at (count s (call_of calls t).level) _ (every-at s.levels _ e (call_of calls t).level l) (call_of calls t).block b))
    (tally-some s.threads t
    (λ u. in_hand test (call_of calls t).level (call_of calls t).block (call_of calls u))
    h
    (mine (call_of calls t) g)))
  where
    once : (b : Bool) {n : ℕ} → n ≡ bit b → 1 ≤ n → b ≡ true
    once true q k = refl
    once false q k = absurd (omega arith)

    mine : (c : Call) → test c ≡ true → in_hand test c.level c.block c ≡ true
    mine c q = simp (q, eq-eqb c.level c.level refl, eq-eqb c.block c.block refl)

-- the parts of a block that is not DIVIDED do not exist
pub parts_none :
    (s : Shape) (states : List ℕ) → parts_exist s states ≡ true → (l b j : ℕ) → l + 1 < s.levels → b < count s l →
    j < parts s → (state_at s states l b ≡ DIVIDED → ⊥) → state_at s states (l + 1) (parts s * b + j) ≡ NOEXIST
unfolding parts_exist
parts_none s states e l b j h k i n =
    eqb-true _ _
    (agree (eqb (state_at s states (l + 1) (parts s * b + j)) NOEXIST) (eqb (state_at s states l b) DIVIDED)
    (every-at (parts s) _ (every-at (count s l) _ (every-at (s.levels - 1) _ e l (omega arith)) b k) j i)
    (ne_eqb _ _ n))
  where
    agree : (a b : Bool) → beq (not a) b ≡ true → b ≡ false → a ≡ true
    agree true b q w = refl
    agree false true q w = absurd (true≢false w)
    agree false false q w = absurd (false≢true q)

-- each level's list is short enough
pub list-short :
    (s : Shape) (lists : List ℕ) → list_ends s lists ≡ true → (l : ℕ) → l < s.levels → get_or lists l 0 ≤ count s l
unfolding list_ends
list-short s lists e l h = leb-true _ _ (both _ _ (every-at s.levels _ e l h)).0

-- room in a level's list for m blocks that are not FREE
pub list-room :
    (s : Shape) (T : State) → ValidFacts s T → LengthFacts s T → (l a m : ℕ) → l < s.levels → a + m ≤ count s l →
    ((j : ℕ) → j < m → state_at s T.pool.states l (a + j) ≡ FREE → ⊥) → get_or T.pool.lists l 0 + m ≤ count s l
unfolding free_listed
list-room s T v n l a m h k g =
    omega (
      arith,
      sym (length-free_list s T.pool.lists l n.lists h (list-short s T.pool.lists v.pool.list_ends l h)),
      members-counted (count s l) (λ b. eqb (state_at s T.pool.states l b) FREE) (free_list s T.pool.lists l) here.0
          (λ b q. eqb-true _ _ (every-at (count s l) _ here.1 b q)),
      tally-room (count s l) a m (λ b. eqb (state_at s T.pool.states l b) FREE) k (λ j q. ne_eqb _ _ (g j q)),
    )
  where
    here :
        (every (length (free_list s T.pool.lists l)) (λ i. ltb (get_or (free_list s T.pool.lists l) i 0) (count s l)) ≡ true)
        × (every (count s l) (λ b. eqb (times b (free_list s T.pool.lists l)) (bit (eqb (state_at s T.pool.states l b) FREE)))
        ≡ true)
    here = both _ _ (every-at s.levels _ v.pool.free_listed l h)

-- the members of a level's list are blocks of the level
pub member-inside :
    (s : Shape) (states lists : List ℕ) → free_listed s states lists ≡ true → (l i : ℕ) → l < s.levels →
    i < length (free_list s lists l) → get_or (free_list s lists l) i 0 < count s l
unfolding free_listed
member-inside s states lists e l i h k =
    ltb-true _ _ (every-at (length (free_list s lists l)) _ (both _ _ (every-at s.levels _ e l h)).0 i k)

-- the queue has as many members as its length says
pub length-queue_of :
    (s : Shape) (queue : List ℕ) → length queue ≡ s.threads + 1 → queue_ends s queue ≡ true →
    (length (queue_of queue) ≡ get_or queue 0 0) × (get_or queue 0 0 ≤ s.threads)
unfolding queue_of queue_ends
length-queue_of s queue h e =
    let n = leb-true (get_or queue 0 0) s.threads (both _ _ e).0 in
    (length-take-le (get_or queue 0 0) (drop 1 queue) (simp length-drop (omega arith)), n)

-- room in the queue for a thread that is not in it
pub queue-room :
    (s : Shape) (T : State) → ValidFacts s T → LengthFacts s T → (t : ℕ) → t < s.threads →
    ((call_of T.threads.calls t).stage ≡ WAITING → ⊥) → get_or T.threads.queue 0 0 + 1 ≤ s.threads
unfolding waiters_queued
queue-room s T v n t h g =
    omega (
      arith,
      sym (length-queue_of s T.threads.queue n.queue v.threads.queue_ends).0,
      members-counted s.threads (λ u. eqb (call_of T.threads.calls u).stage WAITING) (queue_of T.threads.queue) here.0
          (λ u q. eqb-true _ _ (every-at s.threads _ here.1 u q)),
      tally-room s.threads t 1 (λ u. eqb (call_of T.threads.calls u).stage WAITING) (omega arith) only,
    )
  where
    here :
        (every (length (queue_of T.threads.queue)) (λ i. ltb (get_or (queue_of T.threads.queue) i 0) s.threads) ≡ true)
        × (every s.threads (λ u. eqb (times u (queue_of T.threads.queue)) (bit (eqb (call_of T.threads.calls u).stage WAITING)))
        ≡ true)
    here = both _ _ v.threads.waiters_queued

    only : (j : ℕ) → j < 1 → eqb (call_of T.threads.calls (t + j)).stage WAITING ≡ false
    only j q = rw (zero-only j q) (ne_eqb _ _ g)
      where
        zero-only : (j : ℕ) → j < 1 → t + j ≡ t
        zero-only j q = omega arith
