-- `shape::Shape::size` meets its contract: the top size by the power of the number of parts.
-- Assumes nothing.
use mathlib.Core.Path.{ap}
use Prim.Native.Nat.{ℕ, ◌/◌}
use Rattle.shape.specs.Blocks.{size}
use Rattle.shape.proofs.Shape.size.Goals as goal

pub returns : goal.returns
unfolding size
returns c = ap (λ (n : ℕ). c.args.self.top_size / n) c.power.ensures.0
