use mathlib.Core.Bool.{not}
use Rattle.rules.specs.Calls.{due}
use Rattle.tables_threads.proofs.Staying.{Staying}
use Rattle.tables_threads.proofs.wake.keep_waiting.Given as goal

abbrev pub invariant-loop-i : goal.invariant-loop-i
invariant-loop-i l =
    Staying (λ t. not (due l.calls l.clock t)) l.initial.queue l.i l.queue l.kept
