-- The table of calls: what a call that is put leaves, for its thread and for the others.
-- Assumes nothing.
use Rattle.std.specs.Prelude.{◌≡◌, ◌≢◌, List, ℕ, ◌+◌, ◌*◌, ◌≤◌, ◌<◌, length, get_or}
use Rattle.std.proofs.Common.{zero-add, add-zero, arith}
use Rattle.std.proofs.Math.Seq.{length-sets}
use Rattle.laws.specs.Keep.{get_or-sets, get_or-sets-other}
use Rattle.rules.specs.declared.Call.{Call}
use Rattle.rules.specs.Numbers.{CELLS}
use Rattle.rules.specs.Tables.{call_of, cells, put_call}

pub length-put_call : (calls : List ℕ) (t : ℕ) (c : Call) → length (put_call calls t c) ≡ length calls
unfolding put_call
length-put_call calls t c = length-sets calls (CELLS * t) (cells c)

-- where the cells agree, the calls do
pub call_of-same :
    (calls others : List ℕ) (t u : ℕ) →
    ((k : ℕ) → k < CELLS → get_or calls (CELLS * t + k) 0 ≡ get_or others (CELLS * u + k) 0) →
    call_of calls t ≡ call_of others u
unfolding call_of
call_of-same calls others t u h =
    rw
    (simp add-zero at (h 0 (omega arith)), h 1 (omega arith), h 2 (omega arith), h 3 (omega arith), h 4 (omega arith), h 5 (omega arith))

-- a call that is put is the thread's call
pub call_of-put_call :
    (calls : List ℕ) (t : ℕ) (c : Call) → CELLS * t + CELLS ≤ length calls → call_of (put_call calls t c) t ≡ c
unfolding put_call call_of
call_of-put_call calls t c h =
    call_of-same (put_call calls t c) (cells c) t 0 (λ k l. rw zero-add (get_or-sets calls (cells c) (CELLS * t) k 0 l h))

-- and leaves the calls of the others
pub call_of-put_call-other :
    (calls : List ℕ) (t u : ℕ) (c : Call) → u ≢ t → call_of (put_call calls t c) u ≡ call_of calls u
unfolding put_call
call_of-put_call-other calls t u c h =
    call_of-same (put_call calls t c) calls u u
    (λ k l. get_or-sets-other calls (cells c) (CELLS * t) (CELLS * u + k) 0 (λ m n. omega arith))

-- thread t has a call in the table
abbrev pub HasCall : List ℕ → ℕ → Type 0
HasCall calls t = CELLS * t + CELLS ≤ length calls
