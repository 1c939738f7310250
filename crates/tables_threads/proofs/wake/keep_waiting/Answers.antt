-- `keep_waiting` meets its contract. The loop's invariant: of the queue's first i members those that are not due stand in front, counted, with
-- zeros behind them, and the rest is as it was (`Staying`). Assumes nothing.
use mathlib.Core.Path.{sym, ◌∙◌, ap}
use mathlib.Core.Bool.{not}
use native.Mathlib.Omega.{arith}
use lib.ListN.{length-set}
use Rattle.tables_threads.proofs.Staying.{staying-none, staying-length, staying-most, staying-at, staying-all, staying-pass, staying-fail}
use Rattle.tables_threads.proofs.wake.keep_waiting.Goals as goal
use Rattle.tables_threads.proofs.wake.keep_waiting.Goals.{then-not-is_due, else-not-is_due}

pub loop-i-init : goal.loop-i-init
loop-i-init c = staying-none _ _ c.requires.queue_ready.some

pub is_due-requires : goal.is_due-requires
is_due-requires c = omega (arith, staying-at c.requires.queue_ready c.loop-i.invariant (omega arith), c.requires.members_inside.inside c.loop-i.i (omega arith))

pub overflow_add-queue-then-not-is_due : goal.overflow_add-queue-then-not-is_due
overflow_add-queue-then-not-is_due c = omega (arith, staying-most c.requires.queue_ready c.loop-i.invariant)

pub bounds-queue-kept : goal.bounds-queue-kept
bounds-queue-kept c =
    let r = c.requires.queue_ready in
    simp length-set (omega (arith, staying-most r c.loop-i.invariant, staying-length r c.loop-i.invariant (omega arith)))

pub overflow_add-kept : goal.overflow_add-kept
overflow_add-kept c = omega (arith, staying-most c.requires.queue_ready c.loop-i.invariant)

pub loop-i-preserved : goal.loop-i-preserved
loop-i-preserved c =
    let r = c.requires.queue_ready in
    let said = ap not (sym c.is_due.ensures) in
    elim c.if-not-is_due.branch [
      | then-not-is_due w ↦
          rw (w.queue-is, w.kept-is) (staying-pass r c.loop-i.invariant (omega arith) (said ∙ ap not w.if-not-is_due.true))
      | else-not-is_due w ↦
          rw (w.queue-is, w.kept-is) (staying-fail r c.loop-i.invariant (omega arith) (said ∙ ap not w.if-not-is_due.false))
    ]

pub overflow_cast-queue : goal.overflow_cast-queue
overflow_cast-queue c =
    omega (arith, staying-most c.requires.queue_ready c.loop-i.invariant)

pub returns : goal.returns
returns c =
    staying-all c.requires.queue_ready c.loop-i.invariant (omega arith)
