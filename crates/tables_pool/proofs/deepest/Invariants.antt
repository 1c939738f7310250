use Rattle.std.proofs.Common.{◌≡◌}
use Rattle.rules.specs.Steps.{deepest}
use Rattle.tables_pool.proofs.deepest.Given as goal

abbrev pub invariant-loop-l : goal.invariant-loop-l
invariant-loop-l l = deepest l.lists l.level ≡ deepest l.lists l.l
