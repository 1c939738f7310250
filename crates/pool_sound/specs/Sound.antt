-- What is required of the tables that a call is lent: that there are others with which they are sound; and what that gives to its step.
-- Assumes nothing.
use Rattle.std.specs.Prelude.{List, ℕ}
use Rattle.shape.specs.declared.Shape.{Shape}
use Rattle.rules.specs.declared.Device.{Device}
use Rattle.rules.specs.Tables.{State, state}
use Rattle.facts.specs.Lines.{Sound, ValidFacts, valid-facts}
use Rattle.facts.specs.Given.{LengthFacts, length-facts}
use Rattle.facts.specs.Queue.{QueueReady, queue_ready}
use Rattle.facts.specs.Wake.{MembersInside, members_inside}

-- the calls alone: ask and switch
abbrev pub CallsSound : Shape → List ℕ → Device → Type 0
CallsSound s calls d =
    (states : List ℕ) × (owners : List ℕ) × (lists : List ℕ) × (queue : List ℕ)
    × Sound s (state states owners lists calls queue d)

-- all but the lists and the queue: give back
abbrev pub OwnedSound : Shape → List ℕ → List ℕ → List ℕ → Device → Type 0
OwnedSound s states owners calls d =
    (lists : List ℕ) × (queue : List ℕ) × Sound s (state states owners lists calls queue d)

-- the threads' tables: tick
abbrev pub ThreadsSound : Shape → List ℕ → List ℕ → Device → Type 0
ThreadsSound s calls queue d =
    (states : List ℕ) × (owners : List ℕ) × (lists : List ℕ) × Sound s (state states owners lists calls queue d)

-- the states and the calls: whole
abbrev pub StatesSound : Shape → List ℕ → List ℕ → Type 0
StatesSound s states calls =
    (owners : List ℕ) × (lists : List ℕ) × (queue : List ℕ) × (d : Device) × Sound s (state states owners lists calls queue d)

module _ {s : Shape} {T : State} (g : Sound s T) where
  pub right-lengths : LengthFacts s T
  right-lengths = length-facts s T g.lengths

  lines : ValidFacts s T
  lines = valid-facts s T g.valid

  pub queue-ready : QueueReady T.threads.queue
  queue-ready = queue_ready s T.threads.queue lines.threads.queue_ends right-lengths.queue

  pub members-inside : MembersInside T.threads.calls T.threads.queue
  members-inside =
      members_inside s T.threads.calls T.threads.queue lines.threads.queue_ends lines.threads.waiters_queued
      right-lengths.queue
      right-lengths.calls
