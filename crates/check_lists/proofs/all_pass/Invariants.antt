use Rattle.std.proofs.Common.{◌≡◌, Bool, ℕ, get_or}
use Rattle.laws.specs.Tests.{every}
use Rattle.check_lists.specs.Level.{Tells}
use Rattle.check_lists.proofs.all_pass.Given as goal

abbrev pub invariant-loop-cell : goal.invariant-loop-cell
invariant-loop-cell g l =
    (test : ℕ → Bool) → Tells (goal.F-post g l.passes) test →
    l.ok ≡ every l.cell-index (λ i. test (get_or l.cells i 0))
