-- `script_run::list_script` meets its contract: behind the header stands the line of a script that is not run, or the lines of its records.
-- Assumes nothing.
use native.Mathlib.Omega.{arith}
use Rattle.script_run.proofs.Titles.{empty, too_long, run-whole}
use Rattle.script_run.proofs.list_script.Goals as goal

pub returns-then-is_empty : goal.returns-then-is_empty
returns-then-is_empty c = empty _ _ (omega arith) c.put_header-end.ensures (grind arith) c.put_line.ensures

pub returns-then-script-gt-MOST_BYTES : goal.returns-then-script-gt-MOST_BYTES
returns-then-script-gt-MOST_BYTES c =
    too_long _ _ (omega arith) c.put_header-end.ensures (omega arith) c.put_line-then-script-gt-MOST_BYTES.ensures

pub returns : goal.returns
returns c = run-whole _ _ (omega arith) c.put_header-end.ensures (grind arith) (omega arith) c.run_first.ensures
