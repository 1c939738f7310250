-- A level's blocks stand together in the tables, and a block's parts stand together among those of the next level.
-- Assumes nothing.
use Rattle.std.specs.Prelude.{◌≡◌, ℕ, zero, suc, ◌+◌, ◌*◌, ◌-◌, ◌/◌, ◌≤◌, ◌<◌}
use Rattle.std.proofs.Common.{div-lt_iff_lt-mul, mul_comm, mul-le-mul_left, add-one, arith}
use Rattle.shape.specs.declared.Shape.{Shape}
use Rattle.shape.specs.Limits.{parts}
use Rattle.shape.specs.Blocks.{count, above, place, blocks}
use Rattle.shape.specs.Laws.{parts-pos, count_next, above-next, above-up}

-- a level's blocks end before those of any deeper level
pub levels-apart : (s : Shape) (l m : ℕ) → l < m → above s l + count s l ≤ above s m
levels-apart s l m h = omega (arith, above-next s l, above-up s (l + 1) m (omega arith))

-- and where the tables end at the latest
pub level-inside : (s : Shape) (l : ℕ) → l < s.levels → above s l + count s l ≤ blocks s
unfolding blocks
level-inside s l h = levels-apart s l s.levels h

-- a block's parts are blocks of the next level
pub part-inside : (s : Shape) (l b j : ℕ) → b < count s l → j < parts s → parts s * b + j < count s (l + 1)
part-inside s l b j h k =
    omega (arith, count_next s l, mul-le-mul_left {m = b + 1} {n = count s l} (parts s) (omega arith))

count-above : (s : Shape) (l : ℕ) → 0 < l → count s l ≡ parts s * count s (l - 1)
count-above s zero h = absurd (omega arith)
count-above s (suc l) h =
    let e : suc l - 1 ≡ l = omega arith in
    rw (e, ← add-one) (count_next s l)

-- the block whose part a block is
pub parent-inside : (s : Shape) (l b : ℕ) → 0 < l → b < count s l → b / parts s < count s (l - 1)
parent-inside s l b h k =
    (div-lt_iff_lt-mul (parts-pos s)).1 (omega (arith, count-above s l h, mul_comm (parts s) (count s (l - 1))))

-- a block's buddies are blocks of its level
pub buddy-inside :
    (s : Shape) (l b j : ℕ) → 0 < l → b < count s l → j < parts s → parts s * (b / parts s) + j < count s l
buddy-inside s l b j h k m =
    omega (
      arith,
      count-above s l h,
      mul-le-mul_left {m = b / parts s + 1} {n = count s (l - 1)} (parts s) (omega (arith, parent-inside s l b h k)),
    )

-- so they all have places in the tables
pub parts-placed :
    (s : Shape) (l b : ℕ) → l + 1 < s.levels → b < count s l → place s (l + 1) (parts s * b) + parts s ≤ blocks s
parts-placed s l b h k =
    omega (
      arith,
      level-inside s (l + 1) h,
      count_next s l,
      mul-le-mul_left {m = b + 1} {n = count s l} (parts s) (omega arith),
    )

pub buddies-placed :
    (s : Shape) (l b : ℕ) → 0 < l → l < s.levels → b < count s l →
    place s l (parts s * (b / parts s)) + parts s ≤ blocks s
buddies-placed s l b h k m =
    omega (
      arith,
      level-inside s l k,
      count-above s l h,
      mul-le-mul_left {m = b / parts s + 1} {n = count s (l - 1)} (parts s) (omega (arith, parent-inside s l b h m)),
    )
