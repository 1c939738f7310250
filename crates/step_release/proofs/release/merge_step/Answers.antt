-- `step_release::release::merge_step` meets its contract: the parent is a block of the level above.
-- Assumes nothing.
use native.Mathlib.Omega.{arith}
use Rattle.shape.specs.Limits.{parts}
use Rattle.shape.specs.Sections.{parent-inside}
use Rattle.step_release.proofs.release.merge_step.Goals as goal

pub id-requires : goal.id-requires
unfolding parts
id-requires c = (c.requires.hand.shape, omega (arith, c.requires.hand.level), parent-inside c.args.s c.args.c.level c.args.c.block c.requires.below c.requires.hand.block)
