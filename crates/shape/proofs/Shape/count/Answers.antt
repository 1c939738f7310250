-- `shape::Shape::count` meets its contract: the top blocks times the power of the number of parts.
-- Assumes nothing.
use native.Mathlib.Omega.{arith}
use mathlib.Core.Path.{◌≡◌}
use Prim.Native.Nat.{ℕ, ◌*◌, ◌^◌, ◌≤◌, ◌<◌}
use native.Mathlib.Nat.{mul-le-mul}
use Rattle.shape.specs.Blocks.{count}
use Rattle.shape.specs.Laws.{limits, count-range}
use mathlib.Core.Bool.{true}
use Rattle.shape.specs.declared.Shape.{Shape}
use Rattle.shape.specs.Limits.{parts, most_count, allowed}
use Rattle.shape.proofs.Shape.count.Goals as goal

counted :
    (s : Shape) (l n : ℕ) → allowed s ≡ true → l < s.levels → n ≡ parts s ^ l →
    (s.tops * n ≡ count s l) × ((1 ≤ s.tops * n) × (s.tops * n ≤ most_count))
unfolding count
counted s l n h k e = rw e (omega (arith, count-range s l (limits s h) k))

pub power-requires : goal.power-requires
power-requires c = omega (arith, limits c.args.self c.requires.0)

pub overflow_mul-result : goal.overflow_mul-result
overflow_mul-result c = omega (arith, mul-le-mul (limits c.args.self c.requires.0).tops.1 c.power.ensures.1.1)

pub returns : goal.returns
returns c = counted c.args.self c.args.level c.power.result c.requires.0 c.requires.1 c.power.ensures.0
