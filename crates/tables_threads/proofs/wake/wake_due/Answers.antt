-- `wake_due` meets its contract: waking changes no cell by which a thread is due, so who is due after it was due at entry (`keep-wake`), and
-- the table is as long as it was (`inside-same`). Assumes nothing.
use mathlib.Core.Path.{◌∙◌, ap}
use Prim.Native.Nat.{◌-◌}
use lib.ListN.{length}
use Rattle.rules.specs.Tables.{queue_of, put_queue}
use Rattle.facts.specs.Wake.{keep-wake}
use Rattle.tables_threads.proofs.wake.wake_due.Goals as goal

pub returns : goal.returns
returns c =
    record {
      awake = c.wake_those_due-woken.ensures.0;
      queued =
          c.keep_waiting.ensures
          ∙ ap (put_queue (length c.args.queue.now - 1))
          (rw c.wake_those_due-woken.ensures.0 (keep-wake c.args.calls.now _ c.args.clock (queue_of c.args.queue.now)));
      number = c.wake_those_due-woken.ensures.1;
    }
