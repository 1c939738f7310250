-- Document 01, 'Six states and their moves': each of the ten moves is made, and the table of moves has no other.
-- Assumes nothing.
use Rattle.std.specs.Prelude.{◌≡◌, refl, Bool, true, false, ◌&&◌, ◌||◌, ◌⊎◌, List, [], ◌∷◌, ℕ, ◌<◌, pos, get_or, take, eqb}
use Rattle.std.proofs.Common.{◌∙◌, inl, inr, eqb-true}
use Rattle.std.specs.Bool.{beq}
use Rattle.std.proofs.lemmas.Bool.{false≢true}
use Rattle.laws.specs.Tests.{every, every-at, both, either}
use Rattle.shape.specs.declared.Shape.{Shape}
use Rattle.rules.specs.Moves.{may_move}
use Rattle.facts.specs.Stage.{alike}
use Rattle.history.specs.History.{Step, Build, Ask, GoOn, Give, Switch, Whole, step_on}
use Rattle.proved_cases.specs.Computed.{every_rule, after}

-- the shape and the steps of the paper's script
abbrev pub script_shape : Shape
script_shape = record { pool = 1; threads = 2; levels = 2; tops = 1; top_size = 64 }

abbrev pub script : List Step
script =
    Build ∷ Switch 0 ∷ Ask 0 16 (pos 0) ∷ GoOn 0 ∷ GoOn 0 ∷ GoOn 0 ∷ GoOn 0 ∷ Whole
    ∷ Give 0 257 ∷ GoOn 0 ∷ GoOn 0 ∷ Whole ∷ []

-- a move, the place of the block that makes it, and the record of the paper's script at which it does
pub record Row : Type 0 where
  pub from : ℕ
  pub to : ℕ
  pub place : ℕ
  pub record-number : ℕ

abbrev move : ℕ → ℕ → ℕ → ℕ → Row
move from to place n = record { from = from; to = to; place = place; record-number = n }

-- the moves in the paper's order; the top block stands at place 0, its parts at 1 to 4
abbrev pub rows : List Row
rows =
    move 1 5 0 4
    ∷ move 1 3 2 9
    ∷ move 5 2 0 5
    ∷ move 5 0 1 6
    ∷ move 0 4 1 8
    ∷ move 4 1 0 10
    ∷ move 4 3 1 9
    ∷ move 3 5 1 5
    ∷ move 3 1 2 5
    ∷ move 2 4 0 9
    ∷ []

-- the state at a place before a step that follows a history on fresh tables, and after it
abbrev pub state_before : List Step → ℕ → ℕ
state_before history k = get_or (after script_shape history).pool.states k 0

abbrev pub state_after : List Step → Step → ℕ → ℕ
state_after history x k = get_or (step_on script_shape (after script_shape history) x).after.pool.states k 0

-- a step that makes this move
pub record Made (from to : ℕ) : Type 0 where
  pub history : List Step
  pub step : Step
  pub place : ℕ
  pub before : state_before history place ≡ from
  pub behind : state_after history step place ≡ to

-- the row's move is made where it says
abbrev right : Row → Bool
right r =
    eqb (state_before (take r.record-number script) r.place) r.from
    && eqb (state_after (take r.record-number script) (get_or script r.record-number Whole) r.place) r.to

pub all_right : List Row → Bool
all_right [] = true
all_right (r ∷ rest) = right r && all_right rest

-- the move stands in the rows
unfoldable pub named : ℕ → ℕ → List Row → Bool
named a b [] = false
named a b (r ∷ rest) = (eqb r.from a && eqb r.to b) || named a b rest

pub rows_right : all_right rows ≡ true
unfolding every_rule all_right
rows_right = refl

rows_named : every 6 (λ a. every 6 (λ b. beq (may_move a b) (named a b rows))) ≡ true
unfolding every named
rows_named = refl

-- the table of moves has the rows' moves and no other
pub moves-are-rows : (a b : ℕ) → a < 6 → b < 6 → may_move a b ≡ named a b rows
moves-are-rows a b h k = alike (may_move a b) (named a b rows) (every-at 6 _ (every-at 6 _ rows_named a h) b k)

pub made_in : (a b : ℕ) (rs : List Row) → all_right rs ≡ true → named a b rs ≡ true → Made a b
unfolding all_right named
made_in a b [] e q = absurd (false≢true q)
made_in a b (r ∷ rest) e q =
    go (both (right r) (all_right rest) e) (either (eqb r.from a && eqb r.to b) (named a b rest) q) (made_in a b rest)
  where
    go :
        (right r ≡ true) × (all_right rest ≡ true) →
        ((eqb r.from a && eqb r.to b) ≡ true) ⊎ (named a b rest ≡ true) →
        (all_right rest ≡ true → named a b rest ≡ true → Made a b) →
        Made a b
    go w (inl n) below =
        let ends = both (eqb r.from a) (eqb r.to b) n in
        let states = both _ _ w.0 in
        record {
          history = take r.record-number script;
          step = get_or script r.record-number Whole;
          place = r.place;
          before = eqb-true _ _ states.0 ∙ eqb-true r.from a ends.0;
          behind = eqb-true _ _ states.1 ∙ eqb-true r.to b ends.1;
        }
    go w (inr n) below = below w.1 n
