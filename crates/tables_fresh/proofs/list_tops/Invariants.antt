use Rattle.std.proofs.Common.{◌≡◌}
use Rattle.laws.specs.Lists.{up_from}
use Rattle.rules.specs.Tables.{put_list}
use Rattle.tables_fresh.proofs.Tables.{empty}
use Rattle.tables_fresh.proofs.list_tops.Given as goal

abbrev pub invariant-loop-b : goal.invariant-loop-b
invariant-loop-b l = l.lists ≡ put_list l.s (empty l.s) 0 (up_from 0 l.b)
