-- Document 01, 'Six states and their moves': whatever the tables, a public call leaves each block's state or makes one of the ten moves.
-- Assumes nothing.
use Rattle.std.specs.Prelude.{◌≡◌, ◌||◌, List, ◌∷◌, ℕ, ◌+◌, ◌-◌, ◌/◌, ◌<◌, ltb}
use Rattle.std.proofs.Math.Path.{refl}
use Rattle.std.proofs.Math.Bool.{true}
use Rattle.std.proofs.Common.{arith, ltb-true}
use Rattle.std.proofs.Math.Dec.{eqb}
use Rattle.laws.specs.Tests.{every, both}
use Rattle.shape.specs.declared.Shape.{Shape}
use Rattle.shape.specs.Limits.{parts}
use Rattle.shape.specs.Blocks.{place, level_for, id_level, id_block}
use Rattle.shape.specs.Laws.{Limits, limits, level_for-inside}
use Rattle.rules.specs.declared.Call.{Call}
use Rattle.rules.specs.Numbers.{ALLOCATED, FREE, FREEING, ALLOCATING, FOUND, DIVIDING, RELEASING}
use Rattle.rules.specs.Tables.{State, state_at, free_list}
use Rattle.facts.specs.Lines.{ValidFacts, valid-facts}
use Rattle.facts.specs.Given.{found_inside, parts_none}
use Rattle.rules.specs.Steps.{Outcome, take_from, split_step, grant_step, first_buddy, merges, merge_step, settle_step}
use Rattle.history.specs.History.{Step, Build, GoOn, step_on}
use Rattle.facts.specs.Stage.{listed_free, merging}
use Rattle.facts.specs.Running.{Running, own-facts, uses-block, hand-placed, allocating, freeing}
use Rattle.history.specs.Walk.{EachGoOn}
use Rattle.history.proofs.Walk.{each_step}
use Rattle.proved_cases.specs.Moves.{Moves, moves-none, moves-one}
use Rattle.proved_cases.specs.StepsMove.{split_moves, merge-moves}

-- the blocks of one state of the tables, and of another, are a move apart at most
abbrev pub Moved : State → State → Type 0
Moved T U = Moves T.pool.states U.pool.states

-- save that build begins anew
abbrev StepMoves : State → Step → Outcome → Type 0
StepMoves T x o = (x ≡ Build → ⊥) → Moved T o.after

module _ (s : Shape) (T : State) (t : ℕ) (c : Call) (g : Running s T t c) where
  shape : Limits s
  shape = limits s g.sound.shape

  lines : ValidFacts s T
  lines = valid-facts s T g.sound.valid

  -- found: the first block listed was FREE
  take-moves :
      (b : ℕ) (bs : List ℕ) → c.stage ≡ FOUND → free_list s T.pool.lists c.level ≡ b ∷ bs →
      Moved T (take_from s T t c (b ∷ bs)).after
  unfolding take_from
  take-moves b bs f e =
      moves-one T.pool.states (place s c.level b) FREE ALLOCATING
      (listed_free s T.pool.states T.pool.lists lines.pool.free_listed c.level b bs
      (found_inside s c shape.levels.0 (own-facts g).found f)
      e)
      refl

  -- dividing: the block in hand was ALLOCATING, and is split where its parts are blocks of the shape
  divide-moves : c.stage ≡ DIVIDING → c.level < level_for s c.size → Moved T (split_step s T t c).after
  unfolding split_step
  divide-moves d h =
      split_moves s T.pool.states c.level c.block shape.tops.0 (allocating g d)
      (λ j k.
      parts_none s T.pool.states lines.pool.parts_exist c.level c.block j
      (omega (arith, level_for-inside s c.size shape.levels.0))
      (hand-placed g (uses-block c DIVIDING d)).1
      k
      (λ q. omega (arith, allocating g d, q)))

  -- releasing: the block in hand was FREEING, and where it merges its buddies were FREE and its parent DIVIDED
  joins-moves : c.stage ≡ RELEASING → merges s T.pool.states c.level c.block ≡ true → Moved T (merge_step s T t c).after
  unfolding merge_step merges
  joins-moves r e =
      merged (ltb-true 0 c.level (both (ltb 0 c.level) _ e).0) (both (ltb 0 c.level) _ e).1
    where
      merged :
          0 < c.level →
          every (parts s) (λ j.
          eqb (first_buddy s c.block + j) c.block
          || eqb (state_at s T.pool.states c.level (first_buddy s c.block + j)) FREE)
          ≡ true →
          Moved T (merge_step s T t c).after
      merged d f =
          let w = hand-placed g (uses-block c RELEASING r) in
          let m = merging s T.pool.states lines.pool.parts_exist (c.level - 1) c.level c.block (omega arith) w.0 w.1 (freeing g r) f in
          merge-moves s T.pool.states (c.level - 1) c.level (c.block / parts s) (omega arith) shape.tops.0 m.0 m.1

  go-on-moves : EachGoOn (StepMoves T (GoOn t)) s T t c
  unfolding take_from split_step grant_step merge_step settle_step
  go-on-moves =
      record {
        ends = λ r e a _. moves-none _;
        finds = λ l a q _. moves-none _;
        blocks = λ a n d _. moves-none _;
        again = λ f _. moves-none _;
        takes = λ b bs f q _. take-moves b bs f q;
        splits = λ d h _. divide-moves d h;
        grants = λ d h _. moves-one T.pool.states (place s c.level c.block) ALLOCATING ALLOCATED (allocating g d) refl;
        settles = λ r e _. moves-one T.pool.states (place s c.level c.block) FREEING FREE (freeing g r) refl;
        merges = λ r e _. joins-moves r e;
      }

-- whatever the tables and the call, save that build begins anew
pub steps-move : (s : Shape) (T : State) (x : Step) → (x ≡ Build → ⊥) → Moved T (step_on s T x).after
steps-move s T =
    each_step (StepMoves T) s T
    (record {
      stays = λ x r e u _. moves-none _;
      builds = λ a n. absurd (n refl);
      asks = λ t size ms g o h _. moves-none _;
      goes = λ t g. go-on-moves s T t _ g;
      gives = λ t i g o p a w _. moves-one T.pool.states (place s (id_level i) (id_block i)) ALLOCATED FREEING a refl;
      switches = λ t h w _. moves-none _;
      ticks = λ v _. moves-none _;
      whole = λ _. moves-none _;
      not-whole = λ _. moves-none _;
    })
