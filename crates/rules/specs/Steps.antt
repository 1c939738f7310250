-- Document 01, 'Calls and steps': each step of a thread whose call is open, on valid tables.
-- Assumes nothing.
use Rattle.std.specs.Prelude.{Ok, Err, Some, None, Option, Bool, not, cond, ◌&&◌, ◌||◌, List, [], ◌∷◌, ◌++◌, ℕ, zero, suc, ◌+◌, ◌*◌, ◌-◌, ◌/◌, length, get_or, set, replicate, ltb, eqb}
use Rattle.std.proofs.lemmas.List.Edits.{sets}
use Rattle.laws.specs.Tests.{every}
use Rattle.laws.specs.Lists.{keep, up_from}
use Rattle.shape.specs.declared.Shape.{Shape}
use Rattle.shape.specs.Limits.{parts}
use Rattle.shape.specs.Blocks.{place, id, level_for}
use Rattle.rules.specs.declared.Call.{Call}
use Rattle.rules.specs.declared.Refusal.TheVariants.{NoRoom, TimedOut}
use Rattle.rules.specs.declared.Answer.TheVariants.{Found, Again, Taken, Split, Granted, Waiting, Merged, Settled}
use Rattle.rules.specs.Numbers.{ALLOCATED, FREE, DIVIDED, NOEXIST, FREEING, ALLOCATING, CLOSED, ASKED, FOUND, DIVIDING, RELEASING, WAITING, NEVER, TIMED, CELLS}
use Rattle.rules.specs.Tables.{Pool, Threads, State, pool, threads, lent, state_at, free_list, put_list, queue_of, put_queue, put_call}
use Rattle.rules.specs.Answers.{Answered}

-- an answer, and the tables and the record as the step leaves them
pub record Outcome : Type 0 where
  pub answer : Answered
  pub after : State

abbrev pub outcome : Answered → State → Outcome
outcome a T = record { answer = a; after = T }

-- a call that is not open
abbrev pub closed : Call
closed = record { stage = CLOSED; size = 0; wait = 0; deadline = 0; level = 0; block = 0 }

-- a call with a block in hand, for this size
abbrev pub holding : ℕ → ℕ → ℕ → ℕ → Call
holding stage size l b = record { stage = stage; size = size; wait = 0; deadline = 0; level = l; block = b }

-- the same call at another stage, with another level found
abbrev pub moved : Call → ℕ → ℕ → Call
moved c stage l =
    record { stage = stage; size = c.size; wait = c.wait; deadline = c.deadline; level = l; block = c.block }

-- thread t's call is put, and nothing else of the threads changes
abbrev pub with_call : Threads → ℕ → Call → Threads
with_call W t c = threads (put_call W.calls t c) W.queue W.device

-- the step changes thread t's call, and nothing else
abbrev pub only_call : State → ℕ → Call → State
only_call T t c = lent T.pool (with_call T.threads t c)

-- thread t joins the queue's end, blocked, and nobody runs
abbrev pub blocked : Shape → Threads → ℕ → Call → Threads
blocked s W t c =
    threads (put_call W.calls t (moved c WAITING 0)) (put_queue s.threads (queue_of W.queue ++ (t ∷ [])))
    (record { clock = W.device.clock; running = 0 })

-- threads become ready and asked
unfoldable pub wake : List ℕ → List ℕ → List ℕ
wake calls [] = calls
wake calls (t ∷ ts) = wake (set calls (CELLS * t) ASKED) ts

-- every waiting thread becomes ready and asked, and the queue is empty
abbrev pub wake_all : Shape → Threads → Threads
wake_all s W = threads (wake W.calls (queue_of W.queue)) (put_queue s.threads []) W.device

-- the deepest level from l upward with a FREE block
unfoldable pub deepest : List ℕ → ℕ → Option ℕ
deepest lists zero = cond (ltb 0 (get_or lists 0 0)) (Some 0) None
deepest lists (suc l) = cond (ltb 0 (get_or lists (suc l) 0)) (Some (suc l)) (deepest lists l)

-- no level has room: a no-wait call ends; a timed call with the clock at its deadline ends; any other joins the queue's end, blocked, and nobody runs
unfoldable pub no_room : Shape → State → ℕ → Call → Outcome
no_room s T t c =
    cond (eqb c.wait NEVER) (outcome (Err NoRoom) (only_call T t closed))
    (cond (eqb c.wait TIMED && eqb c.deadline T.threads.device.clock) (outcome (Err TimedOut) (only_call T t closed))
    (outcome (Ok Waiting) (lent T.pool (blocked s T.threads t c))))

unfoldable pub look_at : Shape → State → ℕ → Call → Option ℕ → Outcome
look_at s T t c (Some l) = outcome (Ok (Found l)) (only_call T t (moved c FOUND l))
look_at s T t c None = no_room s T t c

-- asked: a timed call with the clock above its deadline ends; otherwise the deepest level with room is found
unfoldable pub look : Shape → State → ℕ → Call → Outcome
look s T t c =
    cond (eqb c.wait TIMED && ltb c.deadline T.threads.device.clock) (outcome (Err TimedOut) (only_call T t closed))
    (look_at s T t c (deepest T.pool.lists (level_for s c.size)))

-- block b leaves the front of its level's list and becomes ALLOCATING; bs is the rest of the list
abbrev pub take_pool : Shape → Pool → ℕ → ℕ → List ℕ → Pool
take_pool s P l b bs = pool (set P.states (place s l b) ALLOCATING) P.owners (put_list s P.lists l bs)

unfoldable pub take_from : Shape → State → ℕ → Call → List ℕ → Outcome
take_from s T t c [] = outcome (Ok Again) (only_call T t (moved c ASKED 0))
take_from s T t c (b ∷ bs) =
    outcome (Ok (Taken (id s c.level b)))
    (lent (take_pool s T.pool c.level b bs) (with_call T.threads t (holding DIVIDING c.size c.level b)))

-- found: the first of that level's list becomes ALLOCATING and the call dividing; if the list has emptied, the call is asked again
unfoldable pub take_step : Shape → State → ℕ → Call → Outcome
take_step s T t c = take_from s T t c (free_list s T.pool.lists c.level)

-- the block becomes DIVIDED, its first part ALLOCATING, the others FREE, appended in ascending order
abbrev pub split_pool : Shape → Pool → ℕ → ℕ → Pool
split_pool s P l b =
    pool
    (sets (set P.states (place s l b) DIVIDED) (place s (l + 1) (parts s * b)) (ALLOCATING ∷ replicate (parts s - 1) FREE))
    P.owners
    (put_list s P.lists (l + 1) (free_list s P.lists (l + 1) ++ up_from (parts s * b + 1) (parts s - 1)))

-- dividing above its target: the block is split, its first part in hand
unfoldable pub split_step : Shape → State → ℕ → Call → Outcome
split_step s T t c =
    outcome (Ok (Split (id s (c.level + 1) (parts s * c.block))))
    (lent (split_pool s T.pool c.level c.block)
    (with_call T.threads t (holding DIVIDING c.size (c.level + 1) (parts s * c.block))))

-- the block becomes ALLOCATED with its owner
abbrev pub grant_pool : Shape → Pool → ℕ → ℕ → ℕ → Pool
grant_pool s P t l b =
    pool (set P.states (place s l b) ALLOCATED) (set P.owners (place s l b) (t + 1)) P.lists

-- at its target: the block is the thread's, call closed, granted
unfoldable pub grant_step : Shape → State → ℕ → Call → Outcome
grant_step s T t c =
    outcome (Ok (Granted (id s c.level c.block)))
    (lent (grant_pool s T.pool t c.level c.block) (with_call T.threads t closed))

unfoldable pub divide_step : Shape → State → ℕ → Call → Outcome
divide_step s T t c = cond (ltb c.level (level_for s c.size)) (split_step s T t c) (grant_step s T t c)

-- the block's parent is split into parts from here on
abbrev pub first_buddy : Shape → ℕ → ℕ
first_buddy s b = parts s * (b / parts s)

-- below level 0 with its buddies FREE
unfoldable pub merges : Shape → List ℕ → ℕ → ℕ → Bool
merges s states l b =
    ltb 0 l
    && every (parts s) (λ j. eqb (first_buddy s b + j) b || eqb (state_at s states l (first_buddy s b + j)) FREE)

-- the buddies leave the list, the rest keeping its order, all become NOEXIST, the parent FREEING
abbrev pub merge_pool : Shape → Pool → ℕ → ℕ → Pool
merge_pool s P l b =
    pool
    (set (sets P.states (place s l (first_buddy s b)) (replicate (parts s) NOEXIST)) (place s (l - 1) (b / parts s)) FREEING)
    P.owners
    (put_list s P.lists l (keep (λ x. not (eqb (x / parts s) (b / parts s))) (free_list s P.lists l)))

-- merge: the parent is in hand
unfoldable pub merge_step : Shape → State → ℕ → Call → Outcome
merge_step s T t c =
    outcome (Ok (Merged (id s (c.level - 1) (c.block / parts s))))
    (lent (merge_pool s T.pool c.level c.block)
    (with_call T.threads t (holding RELEASING 0 (c.level - 1) (c.block / parts s))))

-- the block becomes FREE, appended to its list
abbrev pub settle_pool : Shape → Pool → ℕ → ℕ → Pool
settle_pool s P l b =
    pool (set P.states (place s l b) FREE) P.owners (put_list s P.lists l (free_list s P.lists l ++ (b ∷ [])))

-- settle: call closed, every waiting thread ready and asked, the queue empty
unfoldable pub settle_step : Shape → State → ℕ → Call → Outcome
settle_step s T t c =
    outcome (Ok (Settled (length (queue_of T.threads.queue))))
    (lent (settle_pool s T.pool c.level c.block) (wake_all s (with_call T.threads t closed)))

unfoldable pub release_step : Shape → State → ℕ → Call → Outcome
release_step s T t c = cond (merges s T.pool.states c.level c.block) (merge_step s T t c) (settle_step s T t c)

-- go on, by the call's stage
unfoldable pub go_on_step : Shape → State → ℕ → Call → Outcome
go_on_step s T t c =
    cond (eqb c.stage ASKED) (look s T t c)
    (cond (eqb c.stage FOUND) (take_step s T t c) (cond (eqb c.stage DIVIDING) (divide_step s T t c) (release_step s T t c)))
