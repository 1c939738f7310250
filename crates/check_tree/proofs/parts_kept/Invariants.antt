use mathlib.Core.Path.{◌≡◌}
use Prim.Native.Nat.{◌+◌, ◌*◌}
use lib.ListN.{length}
use Rattle.laws.specs.Tests.{every}
use Rattle.check_tree.proofs.Parts.{kept}
use Rattle.check_tree.proofs.parts_kept.Given as goal

abbrev pub invariant-loop-i : goal.invariant-loop-i
invariant-loop-i l = (l.tops + 4 * l.parents ≡ length l.states) × (l.ok ≡ every l.i (kept 4 l.tops l.states))
