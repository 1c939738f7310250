-- `shape::Shape::power` meets its contract: a power of four is a shift by two for each.
-- Assumes nothing.
use Rattle.shape.specs.Limits.{parts}
use Rattle.shape.proofs.Powers.{power, power-range}
use Rattle.shape.proofs.Shape.power.Goals as goal

pub returns : goal.returns
unfolding parts
returns c =
    let e = power c.args.exponent c.requires in
    (e, rw e (power-range c.args.exponent c.requires))
