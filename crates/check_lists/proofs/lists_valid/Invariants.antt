use Rattle.check_lists.proofs.Levels.{Reached}
use Rattle.check_lists.proofs.lists_valid.Given as goal

abbrev pub invariant-loop-level : goal.invariant-loop-level
invariant-loop-level l = Reached l.s l.states l.lists l.level l.from
