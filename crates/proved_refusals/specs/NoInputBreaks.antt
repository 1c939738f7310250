-- Demand 1, 'No input breaks it': for every shape, all tables and every call, the answer is one that document 01 lists for the call, and a
-- refusal alters nothing, except that no room and timed out (14 and 15) close the asker's own call.
-- Assumes nothing.
use Rattle.std.specs.Prelude.{Err, Result, ◌≡◌, true, false, List, ℕ}
use Rattle.shape.specs.declared.Shape.{Shape}
use Rattle.rules.specs.declared.Refusal.{Refusal}
use Rattle.rules.specs.declared.Covered.{Covered}
use Rattle.rules.specs.Answers.{refusal_number, number}
use Rattle.rules.specs.Tables.{State}
use Rattle.rules.specs.Steps.{Outcome, only_call, closed}
use Rattle.rules.specs.Questions.{cover, MapOutcome, map_pool}
use Rattle.history.specs.History.{Step, GoOn, step_on}
use Rattle.history.specs.Listed.{Entry, entry, listed_for}
use Rattle.history.specs.Walk.{closes}

-- how a step may end on tables T: its answer's number is listed for the call; a refusal leaves tables and record as they were, save that those
-- which close a call, and which only a go on gives, close the call of its thread
pub record StepEnds (T : State) (x : Step) (o : Outcome) : Type 0 where
  pub listed : listed_for (entry x) (number o.answer) ≡ true
  pub untouched : (r : Refusal) → o.answer ≡ Err r → closes r ≡ false → o.after ≡ T
  pub closing :
      (r : Refusal) → o.answer ≡ Err r → closes r ≡ true → (t : ℕ) × (x ≡ GoOn t) × (o.after ≡ only_call T t closed)

-- cover alters nothing by its type: it answers a block, or refuses with a number listed for it
abbrev pub CoverEnds : Result Covered Refusal → Type 0
CoverEnds a = (r : Refusal) → a ≡ Err r → listed_for Entry.cover (refusal_number r) ≡ true

-- map writes its lent row alone, and leaves that as it was where it refuses, with a number listed for it
abbrev pub MapEnds : List ℕ → MapOutcome → Type 0
MapEnds row o =
    (r : Refusal) → o.answer ≡ Err r → (listed_for Entry.map (refusal_number r) ≡ true) × (o.row ≡ row)

-- every public call on tables T of shape s
pub record NoInputBreaks (s : Shape) (T : State) : Type 0 where
  pub steps : (x : Step) → StepEnds T x (step_on s T x)
  pub covers : (offset : ℕ) → CoverEnds (cover s T offset)
  pub maps : (row : List ℕ) → MapEnds row (map_pool s T row)
