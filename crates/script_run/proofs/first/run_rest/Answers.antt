-- `script_run::first::run_rest` meets its contract: each turn writes its record's line, and with the lines of the rest all are written.
-- Assumes nothing.
use mathlib.Core.Path.{sym, ◌∙◌}
use native.Mathlib.Omega.{arith}
use Rattle.script_run.proofs.Going.{ends, ends-bad, no-shape, falls, goes_on}
use Rattle.script_run.proofs.first.run_rest.Goals as goal

pub returns-in_default : goal.returns-in_default
returns-in_default c = ends-bad c.loop-at.invariant (omega arith) (sym c.read.ensures ∙ c.in_default.is) c.put_line.ensures

pub turn-answered-requires : goal.turn-answered-requires
turn-answered-requires c =
    (no-shape c.loop-at.invariant (omega arith) (sym c.read.ensures ∙ c.in-Some.is), c.loop-at.invariant.here.sound)

pub loop-at-smaller : goal.loop-at-smaller
loop-at-smaller c = falls c.loop-at.invariant (omega arith) (sym c.read.ensures ∙ c.in-Some.is)

pub loop-at-preserved : goal.loop-at-preserved
loop-at-preserved c =
    goes_on c.loop-at.invariant (omega arith) (sym c.read.ensures ∙ c.in-Some.is) c.turn-answered.ensures c.put_line-end.ensures

pub returns : goal.returns
returns c = ends c.loop-at.invariant (omega arith)
