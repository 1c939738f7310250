-- What a step that releases a block needs of the tables that it touches; valid tables give it.
-- Assumes nothing.
use Rattle.std.specs.Prelude.{◌≡◌, List, ℕ, ◌+◌, ◌<◌, length, get_or}
use Rattle.shape.specs.declared.Shape.{Shape}
use Rattle.shape.specs.Blocks.{count}
use Rattle.rules.specs.declared.Call.{Call}
use Rattle.facts.specs.Lists.{ListReady}
use Rattle.facts.specs.Wake.{MembersInside}
use Rattle.tables_pool.specs.Cells.{HasBlock}
use Rattle.facts.specs.Call.{HasCall}

pub record Merges (s : Shape) (states lists calls : List ℕ) (t : ℕ) (c : Call) : Type 0 where
  pub mine : HasCall calls t
  pub hand : HasBlock s states c.level c.block
  pub list : ListReady s lists c.level
  pub below : 0 < c.level

pub record Settles (s : Shape) (states lists calls queue : List ℕ) (t : ℕ) (c : Call) : Type 0 where
  pub mine : HasCall calls t
  pub hand : HasBlock s states c.level c.block
  pub list : ListReady s lists c.level
  pub room : get_or lists c.level 0 < count s c.level
  pub members : MembersInside calls queue
  pub threads : length queue ≡ s.threads + 1
