use Rattle.check_counts.specs.Counted.{Passed}
use Rattle.check_counts.proofs.count_few.Given as goal

abbrev pub invariant-loop-state : goal.invariant-loop-state
invariant-loop-state l = Passed l.states l.one l.other l.state-index l.sum
