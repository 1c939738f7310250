use Rattle.std.proofs.Common.{◌≡◌}
use Rattle.tables_pool.proofs.Members.{grown}
use Rattle.tables_pool.proofs.append_parts.Given as goal

abbrev pub invariant-loop-part : goal.invariant-loop-part
invariant-loop-part l = l.lists ≡ grown l.s l.initial.lists l.l l.b l.part
