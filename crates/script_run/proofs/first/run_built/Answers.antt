-- `script_run::first::run_built` meets its contract: fresh tables are sound, and behind the line of the shape stand those of the other records.
-- Assumes nothing.
use Rattle.rules.specs.Tables.{fresh}
use Rattle.script_run.proofs.Heads.{begins, listed-built}
use Rattle.script_run.proofs.first.run_built.Goals as goal

pub run_rest-requires : goal.run_rest-requires
unfolding fresh
run_rest-requires c = begins c.requires.headed c.make_fresh.ensures c.requires.shape c.put_line-first.ensures

pub returns : goal.returns
unfolding fresh
returns c = listed-built c.requires.headed c.make_fresh.ensures c.requires.shape c.put_line-first.ensures c.run_rest.ensures
