-- Document 01, 'Refusal numbers': refusals are tried in the table's order, and the first that applies is given. Here those that every call
-- tries first, and those of a step on a block that a thread holds.
-- Assumes nothing.
use Rattle.std.specs.Prelude.{⊤, Result, Ok, Err, Bool, true, false, not, ◌&&◌, List, ℕ, ◌+◌, get_or, ltb, eqb}
use Rattle.shape.specs.declared.Shape.{Shape}
use Rattle.shape.specs.Limits.{allowed}
use Rattle.shape.specs.Blocks.{count, place, id_pool, id_level, id_block}
use Rattle.rules.specs.declared.Device.{Device}
use Rattle.rules.specs.declared.Refusal.{Refusal}
use Rattle.rules.specs.declared.Refusal.TheVariants.{ShapeNotAllowed, WrongLength, NotValid, NoThread, NotRunning, CallOpen, IdOutside, NotAllocated, NotOwner}
use Rattle.rules.specs.Numbers.{ALLOCATED, CLOSED}
use Rattle.rules.specs.Tables.{State, lengths, state_at, call_of}
use Rattle.rules.specs.Valid.{valid}
use Rattle.rules.specs.Steps.{Outcome, outcome}

-- what a check gives: nothing where all passed, or the refusal
abbrev pub Verdict : Type 0
Verdict = Result ⊤ Refusal

-- where the test passes, this is the refusal; otherwise the next is tried
abbrev pub failing : Bool → Refusal → Verdict → Verdict
failing true r next = Err r
failing false r next = next

-- what follows from a verdict: the refusal, or else what stands behind it
abbrev pub through : {A : Type 0} → (Refusal → A) → Verdict → A → A
through refused (Ok _) rest = rest
through refused (Err r) rest = refused r

-- what every call tries first: refusals 1 and 2
unfoldable pub fitting : Shape → State → Verdict
fitting s T = failing (not (allowed s)) ShapeNotAllowed (failing (not (lengths s T)) WrongLength (Ok tt))

-- and every call but build behind them: refusal 3
unfoldable pub verdict : Shape → State → Verdict
verdict s T = through Err (fitting s T) (failing (not (valid s T)) NotValid (Ok tt))

-- tables that are refused give the refusal; on the others the call goes on
abbrev pub checked : {A : Type 0} → (Refusal → A) → Shape → State → A → A
checked refused s T rest = through refused (verdict s T) rest

-- a step that is refused alters nothing
abbrev pub refused : State → Refusal → Outcome
refused T r = outcome (Err r) T

abbrev pub refuse : Bool → Refusal → State → Outcome → Outcome
refuse true r T rest = refused T r
refuse false r T rest = rest

-- refusals 4 and 5: the thread is a thread of the shape, and runs
unfoldable pub running : Shape → Device → ℕ → Verdict
running s d t =
    failing (not (ltb t s.threads)) NoThread (failing (not (eqb d.running (t + 1))) NotRunning (Ok tt))

abbrev pub by_running : Shape → State → ℕ → Outcome → Outcome
by_running s T t rest = through (refused T) (running s T.threads.device t) rest

-- refusal 7: the thread has no call open
abbrev pub by_idle : State → ℕ → Outcome → Outcome
by_idle T t rest = refuse (not (eqb (call_of T.threads.calls t).stage CLOSED)) CallOpen T rest

-- the id's pool number, level or block number is outside this pool
unfoldable pub id_outside : Shape → ℕ → Bool
id_outside s i =
    not (eqb (id_pool i) s.pool && ltb (id_level i) s.levels && ltb (id_block i) (count s (id_level i)))

-- refusals 11, 12 and 13: the id names a block that the thread holds
unfoldable pub held_by : Shape → List ℕ → List ℕ → ℕ → ℕ → Verdict
held_by s states owners t i =
    failing (id_outside s i) IdOutside
    (failing (not (eqb (state_at s states (id_level i) (id_block i)) ALLOCATED)) NotAllocated
    (failing (not (eqb (get_or owners (place s (id_level i) (id_block i)) 0) (t + 1))) NotOwner (Ok tt)))

abbrev pub of_held : Shape → State → ℕ → ℕ → Outcome → Outcome
of_held s T t i rest = through (refused T) (held_by s T.pool.states T.pool.owners t i) rest
