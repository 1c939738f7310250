-- The level for a request: no deeper one fits, and a smaller request's is at least as deep. So where more bytes are free there is room for
-- each size for which there was room, and for each smaller one.
-- Assumes nothing.
use Rattle.std.specs.Prelude.{◌≡◌, refl, Bool, true, false, cond, ◌⊎◌, ℕ, zero, suc, ◌-◌, ◌≤◌, ◌<◌, leb}
use Rattle.std.proofs.Common.{inl, inr, eq-or-lt_of_le, le_of_suc-le-suc, arith, leb-false}
use Rattle.shape.specs.declared.Shape.{Shape}
use Rattle.shape.specs.Blocks.{size, level_from, level_for}
use Rattle.shape.specs.Laws.{level_for-inside, level_for-fits}

from-deepest : (s : Shape) (request l m : ℕ) → m ≤ l → request ≤ size s m → m ≤ level_from s l request
unfolding level_from
from-deepest s request zero m h k = h
from-deepest s request (suc l) m h k =
    pick (leb request (size s (suc l))) refl (λ w. from-deepest s request l m w k) (eq-or-lt_of_le h)
  where
    pick :
        (b : Bool) → leb request (size s (suc l)) ≡ b → (m ≤ l → m ≤ level_from s l request) → (m ≡ suc l) ⊎ (m < suc l) →
        m ≤ cond b (suc l) (level_from s l request)
    pick true e up w = h
    pick false e up (inl w) = absurd (omega (arith, leb-false request (size s (suc l)) e, rw w at k))
    pick false e up (inr w) = up (le_of_suc-le-suc w)

-- no level whose blocks fit lies deeper
pub level_for-deepest : (s : Shape) (request m : ℕ) → m < s.levels → request ≤ size s m → m ≤ level_for s request
unfolding level_for
level_for-deepest s request m h k = from-deepest s request (s.levels - 1) m (omega arith) k

-- a smaller request's level is at least as deep
pub level_for-smaller :
    (s : Shape) (less request : ℕ) → 1 ≤ s.levels → less ≤ request → request ≤ s.top_size →
    level_for s request ≤ level_for s less
level_for-smaller s less request n h k =
    level_for-deepest s less (level_for s request) (level_for-inside s request n) (omega (arith, level_for-fits s request k))
