-- What a step that takes a block needs of the tables that it touches; valid tables give it.
-- Assumes nothing.
use Rattle.std.specs.Prelude.{◌≡◌, true, List, ℕ, ◌+◌, ◌-◌, ◌≤◌, ◌<◌, length, get_or}
use Rattle.shape.specs.declared.Shape.{Shape}
use Rattle.shape.specs.Limits.{parts, allowed, most_threads}
use Rattle.shape.specs.Blocks.{count, blocks, level_for}
use Rattle.rules.specs.declared.Call.{Call}
use Rattle.rules.specs.Tables.{free_list}
use Rattle.facts.specs.Lists.{ListReady}
use Rattle.facts.specs.Queue.{QueueReady}
use Rattle.tables_pool.specs.Cells.{HasBlock}
use Rattle.facts.specs.Call.{HasCall}

-- thread t's call can be put, and t can join the queue
pub record Joins (calls queue : List ℕ) (t : ℕ) : Type 0 where
  pub mine : HasCall calls t
  pub ready : QueueReady queue
  pub room : get_or queue 0 0 + 1 < length queue
  pub few : length queue ≤ most_threads + 1
  pub small : t < 256

pub record Looks (s : Shape) (lists calls queue : List ℕ) (t : ℕ) : Type 0 where
  pub shape : allowed s ≡ true
  pub joins : Joins calls queue t
  pub levels : length lists ≡ s.levels + blocks s
  pub threads : length queue ≡ s.threads + 1

pub record Takes (s : Shape) (states lists calls : List ℕ) (t : ℕ) (c : Call) : Type 0 where
  pub mine : HasCall calls t
  pub list : ListReady s lists c.level
  pub whole : length states ≡ blocks s
  pub inside : 0 < get_or lists c.level 0 → get_or (free_list s lists c.level) 0 0 < count s c.level

pub record Splits (s : Shape) (states lists calls : List ℕ) (t : ℕ) (c : Call) : Type 0 where
  pub mine : HasCall calls t
  pub hand : HasBlock s states c.level c.block
  pub list : ListReady s lists (c.level + 1)
  pub room : get_or lists (c.level + 1) 0 + (parts s - 1) ≤ count s (c.level + 1)

pub record Grants (s : Shape) (states owners calls : List ℕ) (t : ℕ) (c : Call) : Type 0 where
  pub mine : HasCall calls t
  pub hand : HasBlock s states c.level c.block
  pub owned : length owners ≡ blocks s
  pub small : t < most_threads

pub record Divides (s : Shape) (states owners lists calls : List ℕ) (t : ℕ) (c : Call) : Type 0 where
  pub grants : Grants s states owners calls t c
  pub splits : c.level < level_for s c.size → Splits s states lists calls t c
