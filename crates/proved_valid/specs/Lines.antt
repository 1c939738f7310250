-- The lines of `valid` and the lengths in three groups: what is said of a pool's tables alone, what of the threads' tables, and what joins them.
-- Assumes nothing.
use Rattle.std.specs.Prelude.{◌≡◌, true, List, ℕ, ◌+◌, ◌*◌, length}
use Rattle.std.proofs.Common.{eq-eqb}
use Rattle.laws.specs.Tests.{both_of}
use Rattle.shape.specs.declared.Shape.{Shape}
use Rattle.shape.specs.Limits.{allowed}
use Rattle.shape.specs.Blocks.{blocks}
use Rattle.rules.specs.declared.Device.{Device}
use Rattle.rules.specs.Numbers.{CELLS}
use Rattle.rules.specs.Tables.{State, lengths}
use Rattle.rules.specs.Valid.{states_known, owners_known, tops_exist, parts_exist, deepest_whole, buddies_merged, list_ends, free_listed, calls_kept, queue_ends, waiters_queued, running_ready, valid}
use Rattle.facts.specs.Lines.{Sound, ValidFacts, valid-facts, HandsFacts, facts-valid}
use Rattle.facts.specs.Given.{LengthFacts, length-facts}

pub record Pool (s : Shape) (states owners lists : List ℕ) : Type 0 where
  pub long : length states ≡ blocks s
  pub owners_long : length owners ≡ blocks s
  pub lists_long : length lists ≡ s.levels + blocks s
  pub known : states_known s states ≡ true
  pub owned : owners_known s states owners ≡ true
  pub tops : tops_exist s states ≡ true
  pub parts : parts_exist s states ≡ true
  pub deepest : deepest_whole s states ≡ true
  pub merged : buddies_merged s states ≡ true
  pub ends : list_ends s lists ≡ true
  pub listed : free_listed s states lists ≡ true

pub record Threads (s : Shape) (calls queue : List ℕ) (device : Device) : Type 0 where
  pub long : length calls ≡ CELLS * s.threads
  pub queue_long : length queue ≡ s.threads + 1
  pub kept : calls_kept s device.clock calls ≡ true
  pub ends : queue_ends s queue ≡ true
  pub waiters : waiters_queued s calls queue ≡ true
  pub running : running_ready s calls device ≡ true

pub record Facts (s : Shape) (T : State) : Type 0 where
  pub pool : Pool s T.pool.states T.pool.owners T.pool.lists
  pub threads : Threads s T.threads.calls T.threads.queue T.threads.device
  pub hands : HandsFacts s T.pool.states T.threads.calls

pub facts : {s : Shape} {T : State} → Sound s T → Facts s T
facts {s} {T} k = of (length-facts s T k.lengths) (valid-facts s T k.valid)
  where
    of : LengthFacts s T → ValidFacts s T → Facts s T
    of n v =
        record {
          pool =
              record {
                long = n.states;
                owners_long = n.owners;
                lists_long = n.lists;
                known = v.pool.states_known;
                owned = v.pool.owners_known;
                tops = v.pool.tops_exist;
                parts = v.pool.parts_exist;
                deepest = v.pool.deepest_whole;
                merged = v.pool.buddies_merged;
                ends = v.pool.list_ends;
                listed = v.pool.free_listed;
              };
          threads =
              record {
                long = n.calls;
                queue_long = n.queue;
                kept = v.threads.calls_kept;
                ends = v.threads.queue_ends;
                waiters = v.threads.waiters_queued;
                running = v.threads.running_ready;
              };
          hands = v.hands;
        }

-- and they are all that is said of them
lengths-of : (s : Shape) (T : State) → Facts s T → lengths s T ≡ true
unfolding lengths
lengths-of s T f =
    both_of _ _
    (both_of _ _
    (both_of _ _ (both_of _ _ (eq-eqb _ _ f.pool.long) (eq-eqb _ _ f.pool.owners_long))
    (eq-eqb _ _ f.pool.lists_long))
    (eq-eqb _ _ f.threads.long))
    (eq-eqb _ _ f.threads.queue_long)

valid-of : (s : Shape) (T : State) → Facts s T → valid s T ≡ true
valid-of s T f =
    facts-valid s T
    (record {
      pool =
          record {
            states_known = f.pool.known;
            list_ends = f.pool.ends;
            tops_exist = f.pool.tops;
            parts_exist = f.pool.parts;
            deepest_whole = f.pool.deepest;
            buddies_merged = f.pool.merged;
            free_listed = f.pool.listed;
            owners_known = f.pool.owned;
          };
      threads =
          record {
            queue_ends = f.threads.ends;
            calls_kept = f.threads.kept;
            waiters_queued = f.threads.waiters;
            running_ready = f.threads.running;
          };
      hands = f.hands;
    })

pub sound-of : {s : Shape} {T : State} → allowed s ≡ true → Facts s T → Sound s T
sound-of {s} {T} a f = record { shape = a; lengths = lengths-of s T f; valid = valid-of s T f }
