-- `questions::whole::none_open` meets its contract: the flag says whether the calls passed are closed.
-- Assumes nothing.
use Rattle.std.proofs.Common.{sym}
use Rattle.laws.specs.Tests.{every-none, every_more}
use Rattle.questions.proofs.whole.none_open.Goals as goal

pub loop-t-init : goal.loop-t-init
loop-t-init c = sym (every-none _)

pub loop-t-preserved : goal.loop-t-preserved
loop-t-preserved c = rw (every_more, c.loop-t.invariant, c.call_of.ensures)
