use Rattle.tables_pool.specs.Row.{elsewhere}
use Rattle.tables_pool.proofs.Sifting.{Sifting}
use Rattle.tables_pool.proofs.rows.remove_parts.Given as goal

abbrev pub invariant-loop-i : goal.invariant-loop-i
invariant-loop-i l = Sifting (elsewhere l.parts l.parent) l.initial.row l.row l.kept l.i
