-- `shape::time::Millis::in_ticks` meets its contract: a tick that has begun counts, as where nine milliseconds are added.
-- Assumes nothing.
use Rattle.std.proofs.Common.{arith}
use Rattle.shape.specs.Time.{ticks}
use Rattle.shape.proofs.time.Millis.in_ticks.Goals as goal

pub returns : goal.returns
unfolding ticks
returns c = omega arith
