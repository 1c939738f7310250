-- `step_take::divide::split_step` meets its contract: the first part is a block of the next level.
-- Assumes nothing.
use native.Mathlib.Omega.{arith}
use Rattle.shape.specs.Limits.{parts}
use Rattle.shape.specs.Laws.{limits, count-range}
use Rattle.shape.specs.Sections.{part-inside}
use Rattle.step_take.proofs.divide.split_step.Goals as goal

pub overflow_mul-first : goal.overflow_mul-first
overflow_mul-first c = omega (arith, count-range c.args.s c.args.c.level (limits c.args.s c.requires.hand.shape) c.requires.hand.level, c.requires.hand.block)

pub overflow_add-first : goal.overflow_add-first
overflow_add-first c = omega (arith, count-range c.args.s c.args.c.level (limits c.args.s c.requires.hand.shape) c.requires.hand.level, c.requires.hand.block)

pub append_parts-requires : goal.append_parts-requires
unfolding parts
append_parts-requires c = (c.requires.list, c.requires.room, omega (arith, count-range c.args.s c.args.c.level (limits c.args.s c.requires.hand.shape) c.requires.hand.level, c.requires.hand.block))

pub id-requires : goal.id-requires
unfolding parts
id-requires c = (c.requires.hand.shape, c.requires.list.level, omega (arith, part-inside c.args.s c.args.c.level c.args.c.block 0 c.requires.hand.block (omega arith)))
