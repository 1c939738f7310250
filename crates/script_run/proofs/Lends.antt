-- The tables of a shape as parts of the longest ones.
-- Assumes nothing.
use mathlib.Core.Path.{◌≡◌, refl, sym, ◌∙◌}
use mathlib.Core.List.{List}
use mathlib.Core.Bool.{true}
use Prim.Native.Nat.{ℕ, ◌+◌, ◌*◌, ◌≤◌}
use native.Mathlib.Omega.{arith}
use lib.ListN.{length, take}
use lib.Seq.{length-take-le}
use Rattle.shape.specs.declared.Shape.{Shape}
use Rattle.shape.specs.Limits.{allowed, most_blocks, most_levels, most_threads}
use Rattle.shape.specs.Blocks.{blocks}
use Rattle.shape.specs.Laws.{Limits, limits, blocks-most}
use Rattle.rules.specs.declared.lengths.Lengths.{Lengths}
use Rattle.rules.specs.Numbers.{CELLS}
use Rattle.rules.specs.Tables.{State, state, table_lengths}
use Rattle.facts.specs.Given.{LengthFacts}
use Rattle.script_run.specs.Listed.{Largest}

-- the parts of this length of each table
abbrev parts : Lengths → State → State
parts l T =
    state (take l.states T.pool.states) (take l.owners T.pool.owners) (take l.lists T.pool.lists)
    (take l.calls T.threads.calls)
    (take l.queue T.threads.queue)
    T.threads.device

-- these are the lengths of the shape's tables, and no longer than the largest shape's
pub record Fits (s : Shape) (l : Lengths) : Type 0 where
  pub states : (l.states ≡ blocks s) × (l.states ≤ most_blocks)
  pub owners : (l.owners ≡ blocks s) × (l.owners ≤ most_blocks)
  pub lists : (l.lists ≡ s.levels + blocks s) × (l.lists ≤ most_levels + most_blocks)
  pub calls : (l.calls ≡ CELLS * s.threads) × (l.calls ≤ CELLS * most_threads)
  pub queue : (l.queue ≡ s.threads + 1) × (l.queue ≤ most_threads + 1)

pub fits : {s : Shape} {l : Lengths} → allowed s ≡ true → l ≡ table_lengths s → Fits s l
unfolding table_lengths
fits {s} a e =
    let few : blocks s ≤ most_blocks = blocks-most s (limits s a) in
    let small : Limits s = limits s a in
    rw (e, a)
    (record {
      states = (refl, omega arith);
      owners = (refl, omega arith);
      lists = (refl, omega arith);
      calls = (refl, omega arith);
      queue = (refl, omega arith);
    })

pub fitting : {s : Shape} {l : Lengths} {T : State} → Fits s l → Largest T → LengthFacts s (parts l T)
fitting {s} {l} {T} f g =
    record {
      states = length-take-le l.states T.pool.states (omega (arith, f.states.1, g.states)) ∙ f.states.0;
      owners = length-take-le l.owners T.pool.owners (omega (arith, f.owners.1, g.owners)) ∙ f.owners.0;
      lists = length-take-le l.lists T.pool.lists (omega (arith, f.lists.1, g.lists)) ∙ f.lists.0;
      calls = length-take-le l.calls T.threads.calls (omega (arith, f.calls.1, g.calls)) ∙ f.calls.0;
      queue = length-take-le l.queue T.threads.queue (omega (arith, f.queue.1, g.queue)) ∙ f.queue.0;
    }

-- each is no longer than the largest shape's
module _ (s : Shape) {l : Lengths} (a : allowed s ≡ true) (e : l ≡ table_lengths s) where
  pub states_most : l.states ≤ most_blocks
  states_most = (fits a e).states.1

  pub owners_most : l.owners ≤ most_blocks
  owners_most = (fits a e).owners.1

  pub lists_most : l.lists ≤ most_levels + most_blocks
  lists_most = (fits a e).lists.1

  pub calls_most : l.calls ≤ CELLS * most_threads
  calls_most = (fits a e).calls.1

  pub queue_most : l.queue ≤ most_threads + 1
  queue_most = (fits a e).queue.1

-- a part of that length has it
pub taken : (n : ℕ) (xs : List ℕ) → n ≤ length xs → n ≡ length (take n xs)
taken n xs h = sym (length-take-le n xs h)

-- what the check of `run_shape` uses
pub ruleset lends = (states_most, owners_most, lists_most, calls_most, queue_most, taken)
