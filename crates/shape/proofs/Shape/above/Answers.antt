-- `shape::Shape::above` meets its contract: the sum of the powers below that of the level, for each top block.
-- Assumes nothing.
use mathlib.Core.Path.{◌≡◌}
use mathlib.Core.Bool.{true}
use Prim.Native.Nat.{ℕ, ◌*◌, ◌-◌, ◌/◌, ◌^◌, ◌≤◌}
use native.Mathlib.Omega.{arith}
use Rattle.shape.specs.declared.Shape.{Shape}
use Rattle.shape.specs.Limits.{parts, most_blocks, allowed}
use Rattle.shape.specs.Blocks.{above}
use Rattle.shape.specs.Laws.{limits, above_most}
use Rattle.shape.proofs.Powers.{sum-above}
use Rattle.shape.proofs.Shape.above.Goals as goal

summed :
    (s : Shape) (level n : ℕ) → allowed s ≡ true → level ≤ s.levels → n ≡ parts s ^ level →
    (s.tops * ((n - 1) / 3) ≡ above s level) × (s.tops * ((n - 1) / 3) ≤ most_blocks)
summed s level n h k e =
    let q = sum-above s level n (omega (arith, k, (limits s h).levels.1)) e in
    (q, rw q (above_most s level (limits s h) k))

pub power-requires : goal.power-requires
power-requires c = omega (arith, c.requires.1, (limits _ c.requires.0).levels.1)

pub overflow_mul-result : goal.overflow_mul-result
overflow_mul-result c = omega (arith, (summed c.args.self c.args.level c.power.result c.requires.0 c.requires.1 c.power.ensures.0).1)

pub returns : goal.returns
returns c = summed c.args.self c.args.level c.power.result c.requires.0 c.requires.1 c.power.ensures.0
