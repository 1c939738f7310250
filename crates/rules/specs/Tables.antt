-- The tables as lists: what stands where. Each level's blocks stand together, level 0 first (`place` of shape); a list's and the queue's
-- length stands before its members.
-- Assumes nothing.
use Rattle.std.specs.Prelude.{Bool, cond, ◌&&◌, List, [], ◌∷◌, ◌++◌, ℕ, ◌+◌, ◌*◌, ◌-◌, length, get_or, take, drop, set, replicate, eqb}
use Rattle.std.proofs.lemmas.List.Edits.{sets}
use Rattle.laws.specs.Lists.{pad, up_from}
use Rattle.shape.specs.declared.Shape.{Shape}
use Rattle.shape.specs.Blocks.{count, above, place, blocks}
use Rattle.shape.specs.Limits.{allowed}
use Rattle.rules.specs.declared.Device.{Device}
use Rattle.rules.specs.declared.lengths.Lengths.{Lengths}
use Rattle.rules.specs.declared.Call.{Call}
use Rattle.rules.specs.Numbers.{FREE, NOEXIST, CELLS}

-- a pool: the state and the owner of each block, and the free lists
pub record Pool : Type 0 where
  pub states : List ℕ
  pub owners : List ℕ
  pub lists : List ℕ

-- the threads: their calls, the wait queue, and the record of clock and running thread
pub record Threads : Type 0 where
  pub calls : List ℕ
  pub queue : List ℕ
  pub device : Device

-- all that is lent
pub record State : Type 0 where
  pub pool : Pool
  pub threads : Threads

abbrev pub pool : List ℕ → List ℕ → List ℕ → Pool
pool states owners lists = record { states = states; owners = owners; lists = lists }

abbrev pub threads : List ℕ → List ℕ → Device → Threads
threads calls queue device = record { calls = calls; queue = queue; device = device }

abbrev pub lent : Pool → Threads → State
lent P W = record { pool = P; threads = W }

abbrev pub state : List ℕ → List ℕ → List ℕ → List ℕ → List ℕ → Device → State
state states owners lists calls queue device = lent (pool states owners lists) (threads calls queue device)

-- the lengths that the tables of a shape have
unfoldable pub lengths : Shape → State → Bool
lengths s T =
    eqb (length T.pool.states) (blocks s)
    && eqb (length T.pool.owners) (blocks s)
    && eqb (length T.pool.lists) (s.levels + blocks s)
    && eqb (length T.threads.calls) (CELLS * s.threads)
    && eqb (length T.threads.queue) (s.threads + 1)

-- the same lengths as a list for whoever lends the tables; none where the shape is not allowed
unfoldable pub table_lengths : Shape → Lengths
table_lengths s =
    cond (allowed s)
    (record {
      states = blocks s;
      owners = blocks s;
      lists = s.levels + blocks s;
      calls = CELLS * s.threads;
      queue = s.threads + 1;
    })
    (record { states = 0; owners = 0; lists = 0; calls = 0; queue = 0 })

-- the state of block b of level l
abbrev pub state_at : Shape → List ℕ → ℕ → ℕ → ℕ
state_at s states l b = get_or states (place s l b) 0

-- where the list of level l stands: its length at place l, its members behind the lengths, a section for each level
abbrev pub section : Shape → ℕ → ℕ
section s l = s.levels + above s l

unfoldable pub free_list : Shape → List ℕ → ℕ → List ℕ
free_list s lists l = take (get_or lists l 0) (drop (section s l) lists)

unfoldable pub put_list : Shape → List ℕ → ℕ → List ℕ → List ℕ
put_list s lists l xs = set (sets lists (section s l) (pad (count s l) xs)) l (length xs)

-- the queue: its length, then its members, and zeros up to n places
unfoldable pub queue_of : List ℕ → List ℕ
queue_of queue = take (get_or queue 0 0) (drop 1 queue)

unfoldable pub put_queue : ℕ → List ℕ → List ℕ
put_queue n xs = length xs ∷ pad n xs

-- the call of thread t
unfoldable pub call_of : List ℕ → ℕ → Call
call_of calls t =
    record {
      stage = get_or calls (CELLS * t) 0;
      size = get_or calls (CELLS * t + 1) 0;
      wait = get_or calls (CELLS * t + 2) 0;
      deadline = get_or calls (CELLS * t + 3) 0;
      level = get_or calls (CELLS * t + 4) 0;
      block = get_or calls (CELLS * t + 5) 0;
    }

abbrev pub cells : Call → List ℕ
cells c = c.stage ∷ c.size ∷ c.wait ∷ c.deadline ∷ c.level ∷ c.block ∷ []

unfoldable pub put_call : List ℕ → ℕ → Call → List ℕ
put_call calls t c = sets calls (CELLS * t) (cells c)

-- fresh: top blocks FREE, listed 0 upward; no calls; clock 0; nobody running
abbrev pub fresh_pool : Shape → Pool
fresh_pool s =
    pool (replicate s.tops FREE ++ replicate (blocks s - s.tops) NOEXIST) (replicate (blocks s) 0)
    (put_list s (replicate (s.levels + blocks s) 0) 0 (up_from 0 s.tops))

abbrev pub fresh_threads : Shape → Threads
fresh_threads s =
    threads (replicate (CELLS * s.threads) 0) (replicate (s.threads + 1) 0) (record { clock = 0; running = 0 })

unfoldable pub fresh : Shape → State
fresh s = lent (fresh_pool s) (fresh_threads s)
