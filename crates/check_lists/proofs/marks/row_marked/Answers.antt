-- `check_lists::marks::row_marked` meets its contract: the flag is the test of every block passed.
-- Assumes nothing.
use mathlib.Core.Path.{sym}
use Rattle.laws.specs.Tests.{every-none}
use Rattle.check_lists.proofs.Laws.{flag-more}
use Rattle.check_lists.proofs.marks.row_marked.Goals as goal

pub loop-i-init : goal.loop-i-init
loop-i-init c = sym (every-none _)

pub loop-i-preserved : goal.loop-i-preserved
loop-i-preserved c = flag-more _ _ c.loop-i.invariant
