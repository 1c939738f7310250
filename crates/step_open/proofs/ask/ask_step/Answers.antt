-- `step_open::ask::ask_step` meets its contract: a timed wait is at most the longest, so its deadline fits.
-- Assumes nothing.
use Rattle.std.proofs.Common.{◌≡◌, Some, sym, ◌∙◌, ap, arith}
use Rattle.shape.specs.declared.time.Wait.TheVariants.{Timed}
use Rattle.shape.specs.Time.{ticks_of, wait-most, ticks}
use Rattle.step_open.proofs.ask.ask_step.Goals as goal

pub overflow_add-clock : goal.overflow_add-clock
unfolding ticks
overflow_add-clock c =
    let some : c.wait.result ≡ Some (Timed c.in-Timed.ticks) = grind arith in
    omega (arith, ap ticks_of (sym c.wait.ensures ∙ some), wait-most c.args.m.0)
