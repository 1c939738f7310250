-- `step_device::switch::switch_step` meets its contract: a thread of the shape is one of a few, so its number plus one fits.
-- Assumes nothing.
use native.Mathlib.Omega.{arith}
use Rattle.shape.specs.Laws.{limits}
use Rattle.step_device.proofs.switch.switch_step.Goals as goal

pub overflow_cast-d : goal.overflow_cast-d
overflow_cast-d c = omega (arith, limits c.args.s c.requires.0)

pub overflow_add-d : goal.overflow_add-d
overflow_add-d c = omega (arith, limits c.args.s c.requires.0)
