use Rattle.rules.specs.Calls.{due}
use Rattle.tables_threads.proofs.Awake.{Awake}
use Rattle.tables_threads.proofs.wake.wake_those_due.Given as goal

abbrev pub invariant-loop-t : goal.invariant-loop-t
invariant-loop-t l = Awake (due l.initial.calls l.clock) l.initial.calls l.queue l.t-index l.calls l.woken
