-- `check_calls::calls_valid` meets its contract: the flag says of the threads passed whether each call is kept.
-- Assumes nothing.
use Rattle.std.proofs.Common.{sym, ◌∙◌, arith}
use Rattle.laws.specs.Tests.{every-none, every_more, every_upto}
use Rattle.rules.specs.Valid.{calls_kept}
use Rattle.check_calls.proofs.calls_valid.Goals as goal

pub loop-t-init : goal.loop-t-init
loop-t-init c = sym (every-none _)

pub loop-t-preserved : goal.loop-t-preserved
loop-t-preserved c = rw every_more (cc)

pub returns : goal.returns
unfolding calls_kept
returns c = c.loop-t.invariant ∙ every_upto _ _ _ (omega arith)
