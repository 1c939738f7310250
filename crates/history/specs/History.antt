-- A history: the public calls on a pool, one after the other, as a script has them.
-- Assumes nothing.
use Rattle.std.specs.Prelude.{List, [], ◌∷◌, ℕ, ℤ}
use Rattle.shape.specs.declared.Shape.{Shape}
use Rattle.rules.specs.Tables.{State}
use Rattle.rules.specs.Steps.{Outcome, outcome}
use Rattle.rules.specs.Calls.{build, ask, go_on, give, switch, tick}
use Rattle.rules.specs.Questions.{whole}

-- a step: a public call and what it is handed, the thread first; an ask's wait stands in milliseconds
pub data Step : Type 0 where
  Build : Step
  Ask : ℕ → ℕ → ℤ → Step
  GoOn : ℕ → Step
  Give : ℕ → ℕ → Step
  Switch : ℕ → Step
  Tick : Step
  Whole : Step

-- what the step answers, and the tables and the record as it leaves them
unfoldable pub step_on : Shape → State → Step → Outcome
step_on s T Build = build s T
step_on s T (Ask t size ms) = ask s T t size (record { 0 = ms })
step_on s T (GoOn t) = go_on s T t
step_on s T (Give t i) = give s T t i
step_on s T (Switch t) = switch s T t
step_on s T Tick = tick s T
step_on s T Whole = outcome (whole s T) T

-- the tables and the record as a history leaves them
unfoldable pub run_steps : Shape → State → List Step → State
run_steps s T [] = T
run_steps s T (x ∷ xs) = run_steps s (step_on s T x).after xs
