-- Document 01, 'Six states and their moves': when tables are a valid state, line by line.
-- Assumes nothing.
use Rattle.std.specs.Prelude.{Bool, not, ◌&&◌, ◌||◌, List, ℕ, ◌+◌, ◌*◌, ◌-◌, length, get_or, leb, ltb, eqb}
use Rattle.std.specs.Bool.{beq}
use Rattle.laws.specs.Tests.{bit, every, tally}
use Rattle.laws.specs.Lists.{times}
use Rattle.shape.specs.declared.Shape.{Shape}
use Rattle.shape.specs.Limits.{parts}
use Rattle.shape.specs.Blocks.{count, blocks, level_for}
use Rattle.shape.specs.Time.{ticks, longest}
use Rattle.rules.specs.declared.Device.{Device}
use Rattle.rules.specs.declared.Call.{Call}
use Rattle.rules.specs.Numbers.{ALLOCATED, FREE, DIVIDED, NOEXIST, FREEING, ALLOCATING, ASKED, FOUND, DIVIDING, RELEASING, WAITING, NEVER, TIMED}
use Rattle.rules.specs.Tables.{Pool, Threads, State, state_at, section, free_list, queue_of, call_of}

-- which fields a call's stage uses
abbrev pub uses_wait : Call → Bool
uses_wait c = eqb c.stage ASKED || eqb c.stage WAITING || eqb c.stage FOUND

abbrev pub uses_size : Call → Bool
uses_size c = uses_wait c || eqb c.stage DIVIDING

abbrev pub uses_deadline : Call → Bool
uses_deadline c = uses_wait c && eqb c.wait TIMED

abbrev pub uses_block : Call → Bool
uses_block c = eqb c.stage DIVIDING || eqb c.stage RELEASING

abbrev pub uses_level : Call → Bool
uses_level c = eqb c.stage FOUND || uses_block c

-- every state is 0 to 5
unfoldable pub states_known : Shape → List ℕ → Bool
states_known s states = every (blocks s) (λ k. leb (get_or states k 0) 5)

-- a list is as long as its level at most, and the places behind its end hold zero
unfoldable pub list_ends : Shape → List ℕ → Bool
list_ends s lists =
    every s.levels (λ l.
    leb (get_or lists l 0) (count s l)
    && every (count s l) (λ i. ltb i (get_or lists l 0) || eqb (get_or lists (section s l + i) 0) 0))

-- the queue is as long as there are threads at most, and the places behind its end hold zero
unfoldable pub queue_ends : Shape → List ℕ → Bool
queue_ends s queue =
    leb (get_or queue 0 0) s.threads
    && every s.threads (λ i. ltb i (get_or queue 0 0) || eqb (get_or queue (1 + i) 0) 0)

-- a stage and a kind of wait are among those there are, and the fields that the stage doesn't use hold zero
unfoldable pub fields_used : Call → Bool
fields_used c =
    leb c.stage WAITING
    && leb c.wait TIMED
    && (uses_size c || eqb c.size 0)
    && (uses_wait c || eqb c.wait 0)
    && (uses_deadline c || eqb c.deadline 0)
    && (uses_level c || eqb c.level 0)
    && (uses_block c || eqb c.block 0)

-- no top block is NOEXIST
unfoldable pub tops_exist : Shape → List ℕ → Bool
tops_exist s states = every s.tops (λ b. not (eqb (state_at s states 0 b) NOEXIST))

-- the parts of a DIVIDED block are not NOEXIST, those of any other block are
unfoldable pub parts_exist : Shape → List ℕ → Bool
parts_exist s states =
    every (s.levels - 1) (λ l.
    every (count s l) (λ b.
    every (parts s) (λ j.
    beq (not (eqb (state_at s states (l + 1) (parts s * b + j)) NOEXIST)) (eqb (state_at s states l b) DIVIDED))))

-- the deepest level has no DIVIDED block
unfoldable pub deepest_whole : Shape → List ℕ → Bool
deepest_whole s states =
    every (count s (s.levels - 1)) (λ b. not (eqb (state_at s states (s.levels - 1) b) DIVIDED))

-- below level 0, no buddies are all FREE
unfoldable pub buddies_merged : Shape → List ℕ → Bool
buddies_merged s states =
    every (s.levels - 1) (λ l.
    every (count s l) (λ b.
    not (every (parts s) (λ j. eqb (state_at s states (l + 1) (parts s * b + j)) FREE))))

-- each level's free list names each FREE block of that level once and nothing else
unfoldable pub free_listed : Shape → List ℕ → List ℕ → Bool
free_listed s states lists =
    every s.levels (λ l.
    every (length (free_list s lists l)) (λ i. ltb (get_or (free_list s lists l) i 0) (count s l))
    && every (count s l) (λ b. eqb (times b (free_list s lists l)) (bit (eqb (state_at s states l b) FREE))))

-- an ALLOCATED block has a thread as owner, every other block has none; thread t is t + 1 here, and 0 is nobody
unfoldable pub owners_known : Shape → List ℕ → List ℕ → Bool
owners_known s states owners =
    every (blocks s) (λ k.
    beq (eqb (get_or states k 0) ALLOCATED) (not (eqb (get_or owners k 0) 0))
    && leb (get_or owners k 0) s.threads)

-- a call's block in hand is a block of the shape
unfoldable pub hand_inside : Shape → Call → Bool
hand_inside s c = not (uses_block c) || (ltb c.level s.levels && ltb c.block (count s c.level))

-- a call that has a block in hand to be split or granted, and one that has a block in hand to be released
abbrev pub dividing : Call → Bool
dividing c = eqb c.stage DIVIDING

abbrev pub releasing : Call → Bool
releasing c = eqb c.stage RELEASING

-- block b of level l is the block in hand of a call that passes the test
abbrev pub in_hand : (Call → Bool) → ℕ → ℕ → Call → Bool
in_hand test l b c = test c && eqb c.level l && eqb c.block b

-- blocks of this state correspond one to one to calls that pass the test
unfoldable pub one_to_one : ℕ → (Call → Bool) → Shape → List ℕ → List ℕ → Bool
one_to_one st test s states calls =
    every s.levels (λ l.
    every (count s l) (λ b.
    eqb (tally s.threads (λ t. in_hand test l b (call_of calls t))) (bit (eqb (state_at s states l b) st))))

-- a block in hand is not deeper than its target, which is the level for the size asked
unfoldable pub target_kept : Shape → Call → Bool
target_kept s c = not (eqb c.stage DIVIDING) || leb c.level (level_for s c.size)

-- the wait queue names each blocked thread once and nothing else; blocked threads are those whose call is waiting
unfoldable pub waiters_queued : Shape → List ℕ → List ℕ → Bool
waiters_queued s calls queue =
    every (length (queue_of queue)) (λ i. ltb (get_or (queue_of queue) i 0) s.threads)
    && every s.threads (λ t. eqb (times t (queue_of queue)) (bit (eqb (call_of calls t).stage WAITING)))

-- the running thread, if there is one, is a thread of the shape and isn't blocked
unfoldable pub running_ready : Shape → List ℕ → Device → Bool
running_ready s calls device =
    eqb device.running 0
    || (leb device.running s.threads && not (eqb (call_of calls (device.running - 1)).stage WAITING))

-- asked sizes are at most the top size
unfoldable pub size_kept : Shape → Call → Bool
size_kept s c = leb c.size s.top_size

-- a found level is at most the target
unfoldable pub found_kept : Shape → Call → Bool
found_kept s c = not (eqb c.stage FOUND) || leb c.level (level_for s c.size)

-- a timed deadline is at most the clock and the longest wait, and above the clock while waiting
unfoldable pub deadline_kept : ℕ → Call → Bool
deadline_kept clock c =
    not (uses_deadline c)
    || (leb c.deadline (clock + ticks longest) && (not (eqb c.stage WAITING) || ltb clock c.deadline))

-- a call that may not wait is never waiting
unfoldable pub may_wait : Call → Bool
may_wait c = not (eqb c.stage WAITING) || not (eqb c.wait NEVER)

-- all that is said of one call by itself
unfoldable pub call_kept : Shape → ℕ → Call → Bool
call_kept s clock c =
    fields_used c && hand_inside s c && target_kept s c && size_kept s c && found_kept s c && deadline_kept clock c && may_wait c

unfoldable pub calls_kept : Shape → ℕ → List ℕ → Bool
calls_kept s clock calls = every s.threads (λ t. call_kept s clock (call_of calls t))

-- the lines that speak of a pool alone
unfoldable pub pool_valid : Shape → Pool → Bool
pool_valid s P =
    states_known s P.states
    && list_ends s P.lists
    && tops_exist s P.states
    && parts_exist s P.states
    && deepest_whole s P.states
    && buddies_merged s P.states
    && free_listed s P.states P.lists
    && owners_known s P.states P.owners

-- those that speak of the threads alone
unfoldable pub threads_valid : Shape → Threads → Bool
threads_valid s W =
    queue_ends s W.queue
    && calls_kept s W.device.clock W.calls
    && waiters_queued s W.calls W.queue
    && running_ready s W.calls W.device

-- and those that join the two: ALLOCATING blocks correspond one to one to dividing calls, FREEING blocks to releasing calls
unfoldable pub hands_valid : Shape → Pool → Threads → Bool
hands_valid s P W =
    one_to_one ALLOCATING dividing s P.states W.calls && one_to_one FREEING releasing s P.states W.calls

-- tables are a valid state
unfoldable pub valid : Shape → State → Bool
valid s T = pool_valid s T.pool && threads_valid s T.threads && hands_valid s T.pool T.threads
