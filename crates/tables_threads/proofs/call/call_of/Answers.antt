-- `call_of` meets its contract: its six reads are the fields of `call_of`, and the thread's cells are inside the table.
-- Assumes nothing.
use Rattle.std.proofs.Common.{arith}
use Rattle.std.proofs.lemmas.Grind.{common_steps}
use Rattle.rules.specs.Tables.{call_of}
use Rattle.tables_threads.proofs.call.call_of.Goals as goal

pub returns : goal.returns
unfolding call_of
returns c = grind (arith, common_steps)
