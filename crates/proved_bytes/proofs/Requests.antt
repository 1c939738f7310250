-- A smaller size finds room where a larger one does.
-- Assumes nothing.
use Rattle.std.specs.Prelude.{◌≡◌, true, ℕ, ◌≤◌, ◌<◌}
use Rattle.shape.specs.declared.Shape.{Shape}
use Rattle.shape.specs.Limits.{allowed}
use Rattle.shape.specs.Blocks.{bytes, level_for}
use Rattle.shape.specs.Laws.{limits, level_for-inside}
use Rattle.rules.specs.Tables.{State}
use Rattle.rules.specs.Valid.{valid}
use Rattle.proved_bytes.specs.Bytes.{FreeByte, FreeBlock}
use Rattle.proved_bytes.proofs.RoomBytes.{room-more}
use Rattle.proved_bytes.specs.Requests.{level_for-smaller}

-- where each byte that is free in T is free in U, there is room in U for each size for which there is room in T, and for each smaller one
pub room-smaller :
    (s : Shape) (T U : State) → allowed s ≡ true → valid s T ≡ true → valid s U ≡ true →
    ((y : ℕ) → y < bytes s → FreeByte s T.pool.states y → FreeByte s U.pool.states y) →
    (less request : ℕ) → less ≤ request → request ≤ s.top_size →
    FreeBlock s T.pool.states (level_for s request) → FreeBlock s U.pool.states (level_for s less)
room-smaller s T U h v w f less request k q =
    room-more s T U h v w f (level_for s request) (level_for s less)
    (level_for-smaller s less request (limits s h).levels.0 k q)
    (level_for-inside s less (limits s h).levels.0)
