-- What a step that opens a call needs of the tables that it touches; valid tables give it.
-- Assumes nothing.
use Rattle.std.specs.Prelude.{◌≡◌, true, List, ℕ, ◌<◌, length}
use Rattle.shape.specs.declared.Shape.{Shape}
use Rattle.shape.specs.Limits.{allowed, most_threads}
use Rattle.shape.specs.Blocks.{blocks}
use Rattle.rules.specs.declared.Call.{Call}
use Rattle.rules.specs.Numbers.{ASKED}
use Rattle.tables_pool.specs.Cells.{HasBlock}
use Rattle.facts.specs.Call.{HasCall}

-- a call that is asked
abbrev pub asking : ℕ → ℕ → ℕ → Call
asking size wait deadline = record { stage = ASKED; size = size; wait = wait; deadline = deadline; level = 0; block = 0 }

-- the thread's blocks can be looked up
pub record Owned (s : Shape) (states owners : List ℕ) (t : ℕ) : Type 0 where
  pub shape : allowed s ≡ true
  pub whole : length states ≡ blocks s
  pub owned : length owners ≡ blocks s
  pub small : t < most_threads

pub record GivesBlock (s : Shape) (states owners calls : List ℕ) (t l b : ℕ) : Type 0 where
  pub mine : HasCall calls t
  pub block : HasBlock s states l b
  pub owned : length owners ≡ blocks s

pub record Gives (s : Shape) (states owners calls : List ℕ) (t : ℕ) : Type 0 where
  pub owned : Owned s states owners t
  pub mine : HasCall calls t
