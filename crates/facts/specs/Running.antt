-- A thread runs on sound tables: what they say of its call, and its go on, which is past the refusals and is the step of the call's stage.
-- Assumes nothing.
use Rattle.std.specs.Prelude.{◌≡◌, true, ◌||◌, Bool, ℕ, ◌+◌, ◌≤◌, ◌<◌, eqb}
use Rattle.std.proofs.Math.Path.{sym}
use Rattle.std.proofs.Common.{◌∙◌, ap, arith}
use borrow.Author.Tests.{lt-ltb, le-ltb, eq-eqb, ne_eqb}
use Rattle.shape.specs.declared.Shape.{Shape}
use Rattle.shape.specs.Blocks.{count, level_for}
use Rattle.rules.specs.declared.Call.{Call}
use Rattle.rules.specs.Numbers.{FREEING, ALLOCATING, CLOSED, DIVIDING, RELEASING, WAITING}
use Rattle.rules.specs.Tables.{State, state_at, call_of}
use Rattle.rules.specs.Valid.{uses_block, one_to_one, releasing, dividing}
use Rattle.facts.specs.Lines.{Sound, ValidFacts, valid-facts}
use Rattle.facts.specs.Verdict.{passes, running-passes}
use Rattle.facts.specs.Given.{CallFacts, call_facts, hand-inside, hand-state}
use Rattle.rules.specs.Steps.{split_step, grant_step, divide_step, release_step, go_on_step}
use Rattle.rules.specs.Calls.{go_on}
use Rattle.facts.specs.Stage.{running-ready}

-- thread t runs on sound tables, and c is its call
pub record Running (s : Shape) (T : State) (t : ℕ) (c : Call) : Type 0 where
  pub sound : Sound s T
  pub thread : t < s.threads
  pub running : T.threads.device.running ≡ t + 1
  pub own : call_of T.threads.calls t ≡ c

-- a stage tells whether it uses a block
pub uses-block : (c : Call) (n : ℕ) → c.stage ≡ n → uses_block c ≡ (eqb n DIVIDING || eqb n RELEASING)
uses-block c n e = ap (λ (k : ℕ). eqb k DIVIDING || eqb k RELEASING) e

module _ {s : Shape} {T : State} {t : ℕ} {c : Call} (g : Running s T t c) where
  lines : ValidFacts s T
  lines = valid-facts s T g.sound.valid

  pub own-facts : CallFacts s T.threads.device.clock c
  own-facts = rw g.own at (call_facts s T.threads.device.clock T.threads.calls lines.threads.calls_kept t g.thread)

  -- it isn't blocked
  pub ready : c.stage ≡ WAITING → ⊥
  ready q = running-ready s T.threads.calls T.threads.device lines.threads.running_ready t g.running (rw g.own q)

  -- its block in hand, where it has one, and the state of that
  pub hand-placed : uses_block c ≡ true → (c.level < s.levels) × (c.block < count s c.level)
  hand-placed u = hand-inside s c own-facts.hand u

  hand-is :
      (st : ℕ) (test : Call → Bool) → one_to_one st test s T.pool.states T.threads.calls ≡ true → uses_block c ≡ true → test c ≡ true →
      state_at s T.pool.states c.level c.block ≡ st
  hand-is st test k u e =
      rw g.own at
      (hand-state st test s T.pool.states T.threads.calls k t g.thread (rw g.own e) (rw g.own (hand-placed u).0)
      (rw g.own (hand-placed u).1))

  pub allocating : c.stage ≡ DIVIDING → state_at s T.pool.states c.level c.block ≡ ALLOCATING
  allocating e = hand-is ALLOCATING dividing lines.hands.allocating (uses-block c DIVIDING e) (eq-eqb _ _ e)

  pub freeing : c.stage ≡ RELEASING → state_at s T.pool.states c.level c.block ≡ FREEING
  freeing e = hand-is FREEING releasing lines.hands.freeing (uses-block c RELEASING e) (eq-eqb _ _ e)

  -- the thread with a call open goes on
  pub goes : (c.stage ≡ CLOSED → ⊥) → go_on s T t ≡ go_on_step s T t c
  unfolding go_on
  goes n =
      rw (
        passes g.sound,
        running-passes s T.threads.device t g.thread g.running,
        g.own,
        ne_eqb c.stage CLOSED n,
      )

  pub divides : c.stage ≡ DIVIDING → go_on s T t ≡ divide_step s T t c
  unfolding go_on_step
  divides d = goes (λ e. omega (arith, sym d ∙ e)) ∙ rw d

  pub releases : c.stage ≡ RELEASING → go_on s T t ≡ release_step s T t c
  unfolding go_on_step
  releases d = goes (λ e. omega (arith, sym d ∙ e)) ∙ rw d

  -- above its level the block in hand is split, and at its level it is granted
  pub splits : c.stage ≡ DIVIDING → c.level < level_for s c.size → go_on s T t ≡ split_step s T t c
  unfolding divide_step
  splits d h = divides d ∙ rw (lt-ltb c.level (level_for s c.size) h)

  pub grants : c.stage ≡ DIVIDING → level_for s c.size ≤ c.level → go_on s T t ≡ grant_step s T t c
  unfolding divide_step
  grants d h = divides d ∙ rw (le-ltb c.level (level_for s c.size) h)
