-- A thread that goes on, and what valid tables give to the step of its stage.
-- Assumes nothing.
use Rattle.std.specs.Prelude.{◌≡◌, true, ℕ, ◌+◌, ◌*◌, ◌-◌, ◌≤◌, ◌<◌, get_or}
use Rattle.std.proofs.Common.{ap, arith}
use Rattle.shape.specs.declared.Shape.{Shape}
use Rattle.shape.specs.Limits.{parts, allowed, most_threads}
use Rattle.shape.specs.Blocks.{count, level_for}
use Rattle.shape.specs.Laws.{limits, parts-pos, level_for-inside}
use Rattle.shape.specs.Sections.{part-inside}
use Rattle.rules.specs.Numbers.{FREE, CLOSED, ASKED, FOUND, DIVIDING, RELEASING}
use Rattle.rules.specs.Tables.{State, state_at, call_of}
use Rattle.rules.specs.Valid.{uses_block}
use Rattle.facts.specs.Lines.{ValidFacts, valid-facts}
use Rattle.facts.specs.Lists.{ListReady, list_ready, length-free_list}
use Rattle.facts.specs.Given.{LengthFacts, length-facts, found_inside, parts_none, list-room, member-inside, queue-room}
use Rattle.facts.specs.Call.{HasCall}
use Rattle.facts.specs.Queue.{queue_ready}
use Rattle.facts.specs.Wake.{members_inside}
use Rattle.facts.specs.Stage.{left_over}
use Rattle.facts.specs.Running.{Running, uses-block, own-facts, ready, hand-placed, allocating, freeing}
use Rattle.tables_pool.specs.Cells.{HasBlock}
use Rattle.step_take.specs.TakeNeeds.{Looks, Takes, Splits, Grants, Divides}
use Rattle.step_release.specs.ReleaseNeeds.{Settles}

-- thread t runs on sound tables and has a call open
pub record GoesOn (s : Shape) (T : State) (t : ℕ) : Type 0 where
  pub runs : Running s T t (call_of T.threads.calls t)
  pub is_open : (call_of T.threads.calls t).stage ≡ CLOSED → ⊥

module _ (s : Shape) (T : State) (t : ℕ) (g : GoesOn s T t) where
  shape : allowed s ≡ true
  shape = g.runs.sound.shape

  kept : LengthFacts s T
  kept = length-facts s T g.runs.sound.lengths

  facts : ValidFacts s T
  facts = valid-facts s T g.runs.sound.valid

  small : s.threads ≤ most_threads
  small = (limits s shape).threads.1

  pub mine : HasCall T.threads.calls t
  mine = omega (arith, kept.calls, g.runs.thread)

  list : (l : ℕ) → l < s.levels → ListReady s T.pool.lists l
  list l h = list_ready s T.pool.lists l (shape) facts.pool.list_ends kept.lists h

  pub looks : Looks s T.pool.lists T.threads.calls T.threads.queue t
  looks =
      record {
        shape = shape;
        joins =
            record {
              mine = mine;
              ready = queue_ready s T.threads.queue facts.threads.queue_ends kept.queue;
              room = omega (arith, queue-room s T facts kept t g.runs.thread (ready g.runs), kept.queue);
              few = omega (arith, kept.queue, small);
              small = omega (arith, g.runs.thread, small);
            };
        levels = kept.lists;
        threads = kept.queue;
      }

  pub takes : (call_of T.threads.calls t).stage ≡ FOUND → Takes s T.pool.states T.pool.lists T.threads.calls t (call_of T.threads.calls t)
  takes e =
      let level = found_inside s (call_of T.threads.calls t) (limits s (shape)).levels.0 (own-facts g.runs).found e in
      record {
        mine = mine;
        list = list _ level;
        whole = kept.states;
        inside =
            λ n.
            member-inside s T.pool.states T.pool.lists facts.pool.free_listed _ 0 level
            (omega (arith, n, length-free_list s T.pool.lists _ kept.lists level (list _ level).most));
      }

  -- the block in hand
  hand : uses_block (call_of T.threads.calls t) ≡ true → HasBlock s T.pool.states (call_of T.threads.calls t).level (call_of T.threads.calls t).block
  hand u =
      let f = hand-placed g.runs u in
      record { shape = shape; level = f.0; block = f.1; whole = kept.states }

  pub grants :
      (call_of T.threads.calls t).stage ≡ DIVIDING → Grants s T.pool.states T.pool.owners T.threads.calls t (call_of T.threads.calls t)
  grants e =
      record {
        mine = mine;
        hand = hand (uses-block (call_of T.threads.calls t) DIVIDING e);
        owned = kept.owners;
        small = omega (arith, g.runs.thread, small);
      }

  -- the block that is split is ALLOCATING, so its parts do not exist, and the next level's list has room for them
  pub splits :
      (call_of T.threads.calls t).stage ≡ DIVIDING → (call_of T.threads.calls t).level < level_for s (call_of T.threads.calls t).size →
      Splits s T.pool.states T.pool.lists T.threads.calls t (call_of T.threads.calls t)
  splits e h =
      let block = hand (uses-block (call_of T.threads.calls t) DIVIDING e) in
      let next = next_level h in
      record { mine = mine; hand = block; list = list _ next; room = room block next }
    where
      next_level :
          (call_of T.threads.calls t).level < level_for s (call_of T.threads.calls t).size → (call_of T.threads.calls t).level + 1 < s.levels
      next_level h = omega (arith, level_for-inside s (call_of T.threads.calls t).size (limits s (shape)).levels.0)

      none :
          HasBlock s T.pool.states (call_of T.threads.calls t).level (call_of T.threads.calls t).block →
          (call_of T.threads.calls t).level + 1 < s.levels → (j : ℕ) → j < parts s →
          state_at s T.pool.states ((call_of T.threads.calls t).level + 1) (parts s * (call_of T.threads.calls t).block + j) ≡ FREE → ⊥
      none b n j k f =
          omega (
            arith,
            f,
            parts_none s T.pool.states facts.pool.parts_exist (call_of T.threads.calls t).level (call_of T.threads.calls t).block j n b.block k
                (λ q.
                omega (
                  arith,
                  q,
                  allocating g.runs e,
                )),
          )

      room :
          HasBlock s T.pool.states (call_of T.threads.calls t).level (call_of T.threads.calls t).block →
          (call_of T.threads.calls t).level + 1 < s.levels →
          get_or T.pool.lists ((call_of T.threads.calls t).level + 1) 0 + (parts s - 1) ≤ count s ((call_of T.threads.calls t).level + 1)
      room b n =
          omega (
            arith,
            parts-pos s,
            list-room s T facts kept ((call_of T.threads.calls t).level + 1) (parts s * (call_of T.threads.calls t).block) (parts s) n
                (omega (
                  arith,
                  parts-pos s,
                  part-inside s (call_of T.threads.calls t).level (call_of T.threads.calls t).block (parts s - 1) b.block (omega (arith, parts-pos s)),
                ))
                (none b n),
          )

  pub divides :
      (call_of T.threads.calls t).stage ≡ DIVIDING →
      Divides s T.pool.states T.pool.owners T.pool.lists T.threads.calls t (call_of T.threads.calls t)
  divides e = record { grants = grants e; splits = splits e }

  -- the block that is released is FREEING, so its list has room for it
  settles-at :
      (call_of T.threads.calls t).stage ≡ RELEASING →
      Settles s T.pool.states T.pool.lists T.threads.calls T.threads.queue t (call_of T.threads.calls t)
  settles-at e =
      let block = hand (uses-block (call_of T.threads.calls t) RELEASING e) in
      record {
        mine = mine;
        hand = block;
        list = list _ block.level;
        room = room block;
        members = members_inside s T.threads.calls T.threads.queue facts.threads.queue_ends facts.threads.waiters_queued kept.queue kept.calls;
        threads = kept.queue;
      }
    where
      room :
          HasBlock s T.pool.states (call_of T.threads.calls t).level (call_of T.threads.calls t).block →
          get_or T.pool.lists (call_of T.threads.calls t).level 0 < count s (call_of T.threads.calls t).level
      room b =
          omega (
            arith,
            list-room s T facts kept (call_of T.threads.calls t).level (call_of T.threads.calls t).block 1 b.level (omega (arith, b.block))
                (λ j k f.
                omega (
                  arith,
                  ap (λ (x : ℕ). state_at s T.pool.states (call_of T.threads.calls t).level x) (only j k),
                  f,
                  freeing g.runs e,
                )),
          )
        where
          only : (j : ℕ) → j < 1 → (call_of T.threads.calls t).block + j ≡ (call_of T.threads.calls t).block
          only j k = omega arith

  pub settles :
      ((call_of T.threads.calls t).stage ≡ ASKED → ⊥) → ((call_of T.threads.calls t).stage ≡ FOUND → ⊥) →
      ((call_of T.threads.calls t).stage ≡ DIVIDING → ⊥) →
      Settles s T.pool.states T.pool.lists T.threads.calls T.threads.queue t (call_of T.threads.calls t)
  settles a f d = settles-at (left_over (call_of T.threads.calls t) (own-facts g.runs).fields g.is_open a f d (ready g.runs))
