-- Each public promise decides everything: no two differing results satisfy it. A result is the answer with all tables and the record
-- (of a question: the answer, and of map the row) as the call leaves them; a promise says that it equals what the rule gives.
-- Assumes nothing.
use Rattle.std.specs.Prelude.{Result, ◌≡◌, List, ℕ}
use Rattle.std.proofs.Common.{sym, ◌∙◌, ap}
use Rattle.shape.specs.declared.Shape.{Shape}
use Rattle.shape.specs.declared.time.Millis.{Millis}
use Rattle.rules.specs.declared.Covered.{Covered}
use Rattle.rules.specs.Tables.{State}
use Rattle.rules.specs.Steps.{Outcome, outcome}
use Rattle.rules.specs.Calls.{build, ask, go_on, give, switch, tick}
use Rattle.rules.specs.Questions.{whole, cover, MapOutcome, map_outcome, map_pool}
use Rattle.rules.specs.declared.Refusal.{Refusal}
use Rattle.rules.specs.Answers.{Answered}

-- two results that a promise admits are one
pub once : {A : Type 0} {x y rule : A} → x ≡ rule → y ≡ rule → x ≡ y
once p q = p ∙ sym q

-- answer and tables of two results that are one
pub same_answer : (a b : Answered) (T U : State) → outcome a T ≡ outcome b U → (a ≡ b) × (T ≡ U)
same_answer a b T U e = (ap (λ (o : Outcome). o.answer) e, ap (λ (o : Outcome). o.after) e)

module _ (s : Shape) (T : State) (a b : Answered) (U W : State) where
  pub build-decided : outcome a U ≡ build s T → outcome b W ≡ build s T → (a ≡ b) × (U ≡ W)
  build-decided p q = same_answer a b U W (once p q)

  pub ask-decided :
      (t size : ℕ) (wait : Millis) → outcome a U ≡ ask s T t size wait → outcome b W ≡ ask s T t size wait → (a ≡ b) × (U ≡ W)
  ask-decided t size wait p q = same_answer a b U W (once p q)

  pub go-on-decided : (t : ℕ) → outcome a U ≡ go_on s T t → outcome b W ≡ go_on s T t → (a ≡ b) × (U ≡ W)
  go-on-decided t p q = same_answer a b U W (once p q)

  pub give-back-decided : (t id : ℕ) → outcome a U ≡ give s T t id → outcome b W ≡ give s T t id → (a ≡ b) × (U ≡ W)
  give-back-decided t id p q = same_answer a b U W (once p q)

  pub switch-decided : (t : ℕ) → outcome a U ≡ switch s T t → outcome b W ≡ switch s T t → (a ≡ b) × (U ≡ W)
  switch-decided t p q = same_answer a b U W (once p q)

  pub tick-decided : outcome a U ≡ tick s T → outcome b W ≡ tick s T → (a ≡ b) × (U ≡ W)
  tick-decided p q = same_answer a b U W (once p q)

pub whole-decided : (s : Shape) (T : State) (a b : Answered) → a ≡ whole s T → b ≡ whole s T → a ≡ b
whole-decided s T a b p q = once p q

pub cover-decided : (s : Shape) (T : State) (x : ℕ) (a b : Result Covered Refusal) → a ≡ cover s T x → b ≡ cover s T x → a ≡ b
cover-decided s T x a b p q = once p q

pub map-decided :
    (s : Shape) (T : State) (row : List ℕ) (a b : Result ℕ Refusal) (left right : List ℕ) → map_outcome a left ≡ map_pool s T row →
    map_outcome b right ≡ map_pool s T row → (a ≡ b) × (left ≡ right)
map-decided s T row a b left right p q =
    let e = once p q in
    (ap (λ (o : MapOutcome). o.answer) e, ap (λ (o : MapOutcome). o.row) e)
