-- `wake_those_due` meets its contract. The loop's invariant: of the queue's first members those that were due at entry are awake, and counted
-- (`Awake`). What is read of a call as the loop goes is what stood there at entry (`awake-due`). Assumes nothing.
use Rattle.std.proofs.Common.{sym, ◌∙◌, arith}
use Rattle.tables_threads.proofs.Awake.{awake-none, awake-most, awake-due, awake-all, awake-pass, awake-fail}
use Rattle.tables_threads.proofs.Members.{member-at}
use Rattle.tables_threads.proofs.wake.wake_those_due.Goals as goal
use Rattle.tables_threads.proofs.wake.wake_those_due.Goals.{then-is_due, else-is_due}

pub loop-t-init : goal.loop-t-init
loop-t-init c = awake-none _ _ _

pub overflow_add-woken : goal.overflow_add-woken
overflow_add-woken c = omega (arith, awake-most c.loop-t.invariant)

pub loop-t-preserved : goal.loop-t-preserved
loop-t-preserved c =
    let a = c.loop-t.invariant in
    let at = member-at c.args.queue.now c.loop-t.t-index (omega arith) in
    let said = sym (awake-due a c.args.clock _) ∙ sym (rw at at c.is_due.ensures) in
    elim c.if-is_due.branch [
      | then-is_due w ↦ rw (w.calls-is, w.woken-is, at) (awake-pass a c.requires.fits (omega arith) (said ∙ w.if-is_due.true))
      | else-is_due w ↦ rw (w.calls-is, w.woken-is) (awake-fail a c.requires.fits (omega arith) (said ∙ w.if-is_due.false))
    ]

pub returns : goal.returns
returns c = awake-all c.loop-t.invariant (omega arith)
