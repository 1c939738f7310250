use Prim.Native.Nat.{◌-◌}
use lib.ListN.{length}
use Rattle.rules.specs.Tables.{state}
use Rattle.script_run.proofs.Going.{Going}
use Rattle.script_run.proofs.first.run_rest.Given as goal

abbrev pub invariant-loop-at : goal.invariant-loop-at
invariant-loop-at l =
    Going l.script l.s l.from (state l.initial.tables.states.now l.initial.tables.owners.now l.initial.tables.lists.now l.initial.tables.calls.now l.initial.tables.queue.now l.initial.device) l.initial.out l.start l.n l.at
    (state l.tables.states.now l.tables.owners.now l.tables.lists.now l.tables.calls.now l.tables.queue.now l.device) l.out l.end

abbrev pub decreases-loop-at : goal.decreases-loop-at
decreases-loop-at l = length l.script - l.at
