-- `step_release::release::settle_step` meets its contract: the list has room for the block, and its number fits.
-- Assumes nothing.
use native.Mathlib.Omega.{arith}
use Rattle.shape.specs.Laws.{limits, count-range}
use Rattle.step_release.proofs.release.settle_step.Goals as goal

pub append-requires : goal.append-requires
append-requires c = (c.requires.list, c.requires.room, omega (arith, count-range c.args.s c.args.c.level (limits c.args.s c.requires.hand.shape) c.requires.hand.level, c.requires.hand.block))
