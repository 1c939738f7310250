-- Demand 3: a request that may not wait ends within as many go-on steps as there are levels and two, and is granted exactly where a run of free
-- bytes as long as the smallest block that fits starts at a multiple of that size. So more room never turns a yes into a no.
-- Assumes nothing.
use Rattle.std.specs.Prelude.{Err, Some, None, Option, ◌≡◌, refl, ◌⊎◌, ◌↔◌, ℕ, ◌≤◌, ◌<◌}
use Rattle.std.proofs.Common.{ap, inl, inr, arith}
use mathlib.Core.Logic.Iff
use Rattle.shape.specs.declared.Shape.{Shape}
use Rattle.shape.specs.Blocks.{bytes, level_for}
use Rattle.shape.specs.Laws.{limits, level_for-inside}
use Rattle.rules.specs.declared.Refusal.TheVariants.{NoRoom}
use Rattle.rules.specs.Tables.{State}
use Rattle.rules.specs.Steps.{Outcome, outcome, deepest}
use Rattle.proved_bytes.specs.Bytes.{FreeByte, FreeBlock}
use Rattle.proved_bytes.proofs.RoomBytes.{room-bytes}
use Rattle.proved_bytes.specs.Found.{found-room}
use Rattle.proved_bytes.proofs.Requests.{room-smaller}
use Rattle.proved_granted.specs.Until.{Ended, request}
use Rattle.proved_granted.specs.Divides.{Grant, grant-answer, grant-ended}
use Rattle.proved_granted.specs.Request.{Asks}
use Rattle.proved_granted.proofs.Request.{request-nowhere, request-granted}
use Rattle.proved_granted.specs.Exactly.{IsGranted, HasRun, Granting, Refusing, no-grant}

module _ (s : Shape) (T : State) (t size : ℕ) (a : Asks s T t size) where
  inside : level_for s size < s.levels
  inside = level_for-inside s size (limits s a.runs.sound.shape).levels.0

  block-found : ((l : ℕ) × (deepest T.pool.lists (level_for s size) ≡ Some l)) ↔ FreeBlock s T.pool.states (level_for s size)
  block-found = found-room s T a.runs.sound.lengths a.runs.sound.valid (level_for s size) inside

  -- the request ends in one of two ways, by what its look finds
  ends : (r : Option ℕ) → deepest T.pool.lists (level_for s size) ≡ r → Granting s T t size ⊎ Refusing s T t size
  ends (Some l) e =
      inl
      (record {
        room = block-found.0 (l, e);
        granted = (_, grant-answer s t size _ _ grant);
        ended = grant-ended s t size _ _ grant;
      })
    where
      grant : Grant s t size (λ U b. Unit {0}) (request s T t size)
      grant = request-granted s T t size a l e (λ U l b. Unit {0}) (λ U l b g h p. tt) (λ b bs q. tt)
  ends None e =
      let n = request-nowhere s T t size a e in
      inr (record { full = λ f. none (block-found.1 f); refused = n; ended = rw n a.is_closed })
    where
      none : (l : ℕ) × (deepest T.pool.lists (level_for s size) ≡ Some l) → ⊥
      none (l, q) = let z : ◌≡◌ {A = ℕ} 0 1 = cc in omega arith

  -- the call ends within the number of levels plus two go-on steps
  pub ends-within : Ended t (request s T t size)
  ends-within = go (ends _ refl)
    where
      go : Granting s T t size ⊎ Refusing s T t size → Ended t (request s T t size)
      go (inl x) = x.ended
      go (inr x) = x.ended

  granted-block : IsGranted (request s T t size) ↔ FreeBlock s T.pool.states (level_for s size)
  granted-block = go (ends _ refl)
    where
      go : Granting s T t size ⊎ Refusing s T t size → IsGranted (request s T t size) ↔ FreeBlock s T.pool.states (level_for s size)
      go (inl x) = (λ i. x.room, λ f. x.granted)
      go (inr x) = (λ i. absurd (no-grant (request s T t size) (ap (λ (o : Outcome). o.answer) x.refused) i), λ f. absurd (x.full f))

  -- it is granted exactly where such a run is free
  pub granted-exactly : IsGranted (request s T t size) ↔ HasRun s T size
  granted-exactly = Iff.trans granted-block (room-bytes s T a.runs.sound.shape a.runs.sound.valid (level_for s size) inside)

  -- else it ends with no room, and tables and record are as they were before it was asked
  pub refused-else : (HasRun s T size → ⊥) → request s T t size ≡ outcome (Err NoRoom) T
  refused-else n = go (ends _ refl)
    where
      go : Granting s T t size ⊎ Refusing s T t size → request s T t size ≡ outcome (Err NoRoom) T
      go (inl x) = absurd (n (granted-exactly.0 x.granted))
      go (inr x) = x.refused

-- in a second pool where each byte free in the first is free too, a size granted in the first is granted, and so is each smaller one
pub more_room :
    (s : Shape) (T U : State) (t u less size : ℕ) → Asks s T t size → Asks s U u less →
    ((y : ℕ) → y < bytes s → FreeByte s T.pool.states y → FreeByte s U.pool.states y) → less ≤ size →
    IsGranted (request s T t size) → IsGranted (request s U u less)
more_room s T U t u less size a b f h i =
    (granted-block s U u less b).1
    (room-smaller s T U a.runs.sound.shape a.runs.sound.valid b.runs.sound.valid f less size h a.fits
    ((granted-block s T t size a).0 i))
