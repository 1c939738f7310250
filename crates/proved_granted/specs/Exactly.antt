-- Demand 3: a request that may not wait ends within as many go-on steps as there are levels and two, and is granted exactly where a run of free
-- bytes as long as the smallest block that fits starts at a multiple of that size. So more room never turns a yes into a no.
-- Assumes nothing.
use Rattle.std.specs.Prelude.{Ok, Err, ◌≡◌, ℕ, ◌<◌}
use Rattle.std.proofs.Common.{arith}
use Rattle.shape.specs.declared.Shape.{Shape}
use Rattle.shape.specs.Blocks.{count, level_for}
use Rattle.rules.specs.declared.Refusal.TheVariants.{NoRoom}
use Rattle.rules.specs.declared.Answer.TheVariants.{Granted}
use Rattle.rules.specs.Tables.{State}
use Rattle.rules.specs.Steps.{Outcome, outcome}
use Rattle.proved_bytes.specs.Bytes.{FreeRun, FreeBlock}
use Rattle.proved_granted.specs.Until.{Ended, request}

-- the request was granted a block
abbrev pub IsGranted : Outcome → Type 0
IsGranted o = (i : ℕ) × (o.answer ≡ Ok (Granted i))

-- a run of free bytes as long as the smallest block that fits starts at a multiple of that size
abbrev pub HasRun : Shape → State → ℕ → Type 0
HasRun s T size = (b : ℕ) × (b < count s (level_for s size)) × FreeRun s T.pool.states (level_for s size) b

-- there is room for the request, and it ends granted
pub record Granting (s : Shape) (T : State) (t size : ℕ) : Type 0 where
  pub room : FreeBlock s T.pool.states (level_for s size)
  pub granted : IsGranted (request s T t size)
  pub ended : Ended t (request s T t size)

-- there is none, and it ends with no room: nothing has changed
pub record Refusing (s : Shape) (T : State) (t size : ℕ) : Type 0 where
  pub full : FreeBlock s T.pool.states (level_for s size) → ⊥
  pub refused : request s T t size ≡ outcome (Err NoRoom) T
  pub ended : Ended t (request s T t size)

pub no-grant : (o : Outcome) → o.answer ≡ Err NoRoom → IsGranted o → ⊥
no-grant o e (i, q) = let z : ◌≡◌ {A = ℕ} 0 1 = cc in omega arith
