-- `step_take::look::look_step` meets its contract: the level that a size asks for is a level of the shape.
-- Assumes nothing.
use native.Mathlib.Omega.{arith}
use Rattle.shape.specs.Laws.{limits, level_for-inside}
use Rattle.step_take.proofs.look.look_step.Goals as goal

pub deepest-requires : goal.deepest-requires
deepest-requires c = omega (arith, c.level_for.ensures, level_for-inside c.args.s c.args.c.size (limits c.args.s c.requires.shape).levels.0, c.requires.levels)
