-- `questions::whole::tops_free` meets its contract: the flag says whether the top blocks passed are FREE.
-- Assumes nothing.
use Rattle.std.proofs.Common.{sym, length-take-le, get_or-take, arith}
use Rattle.laws.specs.Tests.{every-none, every_more}
use Rattle.questions.proofs.whole.tops_free.Goals as goal

pub loop-state-init : goal.loop-state-init
loop-state-init c = sym (every-none _)

pub loop-state-preserved : goal.loop-state-preserved
loop-state-preserved c =
    rw (
      every_more,
      c.loop-state.invariant,
      get_or-take c.args.tops c.args.states.now c.loop-state.state-index 0 (omega (arith, length-take-le c.args.tops c.args.states.now c.requires)),
    )
