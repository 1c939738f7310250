-- `script_run::first::run_shape` meets its contract: a shape that is not allowed is refused, and the tables of an allowed one are parts of the longest.
-- Assumes nothing.
use mathlib.Core.Path.{sym, ◌∙◌}
use Rattle.std.proofs.Common.{rules}
use Rattle.script_run.proofs.Heads.{listed-refused}
use Rattle.script_run.proofs.Lends.{fits, fitting}
use Rattle.script_run.proofs.first.run_shape.Goals as goal

pub returns-then-not-allowed : goal.returns-then-not-allowed
returns-then-not-allowed c = listed-refused c.requires (sym c.allowed.ensures ∙ c.if-not-allowed.true) c.put_line.ensures

pub run_built-requires : goal.run_built-requires
run_built-requires c =
    record {
      headed = c.requires;
      shape = sym c.allowed.ensures ∙ c.if-not-allowed.false;
      lengths = fitting (fits (sym c.allowed.ensures ∙ c.if-not-allowed.false) c.lengths_of-lengths.ensures) (search rules);
    }
