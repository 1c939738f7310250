use Rattle.std.specs.Prelude.{◌≡◌, ℕ, length, drop}
use Rattle.check_counts.specs.Counted.{Passed}
use Rattle.check_counts.proofs.count_of.Given as goal

-- the states before some place are counted, and those from there on are left
abbrev pub invariant-loop-part : goal.invariant-loop-part
invariant-loop-part l = (i : ℕ) × (l.left ≡ drop i l.states) × Passed l.states l.one l.other i l.sum

abbrev pub decreases-loop-part : goal.decreases-loop-part
decreases-loop-part l = length l.left
