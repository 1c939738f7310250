-- What C is told: the answers in numbers, and a call's outcome with its answer so told. An outcome decides everything: the numbers, and all tables with the record as the call leaves them.
-- Assumes nothing.
use Rattle.std.specs.Prelude.{Ok, Err, Result, List, ℕ, ℤ}
use Rattle.shape.specs.declared.time.Millis.{Millis}
use Rattle.rules.specs.declared.Covered.{Covered}
use Rattle.rules.specs.Answers.{Answered, refusal_number, number, detail}
use Rattle.rules.specs.Tables.{State}
use Rattle.rules.specs.Steps.{Outcome}
use Rattle.rules.specs.Questions.{MapOutcome}
use Rattle.saltbalance_c.specs.declared.said.Said.{Said}
use Rattle.saltbalance_c.specs.declared.said.CoveredBlock.{CoveredBlock}
use Rattle.saltbalance_c.specs.declared.said.MappedBlocks.{MappedBlocks}
use Rattle.rules.specs.declared.Refusal.{Refusal}

-- a wait in milliseconds, as C passes it
abbrev pub millis : ℤ → Millis
millis w = record { 0 = w }

abbrev pub said : Answered → Said
said a = record { number = number a; detail = detail a }

abbrev pub block : Result Covered Refusal → CoveredBlock
block (Err r) = record { refusal = refusal_number r; id = 0; state = 0 }
block (Ok covered) = record { refusal = 0; id = covered.id; state = covered.state }

abbrev pub count : Result ℕ Refusal → MappedBlocks
count (Err r) = record { refusal = refusal_number r; blocks = 0 }
count (Ok n) = record { refusal = 0; blocks = n }

-- a step: what C is told, and the tables with the record after it
pub record Told : Type 0 where
  pub answer : Said
  pub after : State

abbrev pub told : Said → State → Told
told a T = record { answer = a; after = T }

abbrev pub tell : Outcome → Told
tell o = told (said o.answer) o.after

-- map: what C is told, and its row after it
pub record RowTold : Type 0 where
  pub answer : MappedBlocks
  pub row : List ℕ

abbrev pub row_told : MappedBlocks → List ℕ → RowTold
row_told a row = record { answer = a; row = row }

abbrev pub tell_row : MapOutcome → RowTold
tell_row o = row_told (count o.answer) o.row
