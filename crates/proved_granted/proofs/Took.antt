-- A request that is granted takes the bytes of its block.
-- Assumes nothing.
use Rattle.std.specs.Prelude.{Ok, Some, None, Option, ◌≡◌, refl, ℕ, ◌<◌}
use Rattle.std.proofs.Common.{ap}
use native.Mathlib.Omega.{arith}
use Rattle.shape.specs.declared.Shape.{Shape}
use Rattle.shape.specs.Blocks.{id, level_for}
use Rattle.shape.specs.Laws.{limits, level_for-inside}
use Rattle.rules.specs.declared.Answer.TheVariants.{Granted}
use Rattle.rules.specs.Tables.{State}
use Rattle.rules.specs.Steps.{Outcome, deepest}
use Rattle.proved_bytes.specs.Found.{deepest-some}
use Rattle.proved_granted.specs.Until.{request}
use Rattle.proved_granted.specs.Divides.{Grant, grant-answer}
use Rattle.proved_granted.specs.Request.{Asks}
use Rattle.proved_granted.proofs.Request.{request-nowhere, request-granted}
use Rattle.proved_granted.specs.Exactly.{IsGranted, no-grant}
use Rattle.proved_granted.specs.Took.{Took, Held, next, first, took}

module _ (s : Shape) (T : State) (t wanted : ℕ) (a : Asks s T t wanted) where
  -- a request that is granted names a block of the level for its size, and takes its bytes
  pub granted-took :
      IsGranted (request s T t wanted) →
      (b : ℕ) × ((request s T t wanted).answer ≡ Ok (Granted (id s (level_for s wanted) b)))
      × Took s T.pool.states (request s T t wanted).after.pool.states (level_for s wanted) b
  granted-took i = go (deepest T.pool.lists (level_for s wanted)) refl
    where
      go :
          (r : Option ℕ) → deepest T.pool.lists (level_for s wanted) ≡ r →
          (b : ℕ) × ((request s T t wanted).answer ≡ Ok (Granted (id s (level_for s wanted) b)))
          × Took s T.pool.states (request s T t wanted).after.pool.states (level_for s wanted) b
      go (Some l) e = (grant.block, grant-answer s t wanted _ _ grant, took s T t wanted a _ grant)
        where
          level : l < s.levels
          level =
              omega (
                arith,
                deepest-some T.pool.lists (level_for s wanted) l e,
                level_for-inside s wanted (limits s a.runs.sound.shape).levels.0,
              )

          grant : Grant s t wanted (λ U b. Held s T t wanted a U (level_for s wanted) b) (request s T t wanted)
          grant = request-granted s T t wanted a l e (Held s T t wanted a) (next s T t wanted a) (first s T t wanted a l level)
      go None e = absurd (no-grant (request s T t wanted) (ap (λ (o : Outcome). o.answer) (request-nowhere s T t wanted a e)) i)
