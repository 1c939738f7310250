use mathlib.Core.Path.{◌≡◌}
use Rattle.laws.specs.Tests.{every}
use Rattle.check_lists.specs.Marks.{free_marked}
use Rattle.check_lists.proofs.marks.row_marked.Given as goal

abbrev pub invariant-loop-i : goal.invariant-loop-i
invariant-loop-i l = l.ok ≡ every l.i (free_marked l.states l.marks l.bit)
