-- `script_run::first::run_first` meets its contract: the first record is bad or a shape, and the tables are as long as any shape's.
-- Assumes nothing.
use mathlib.Core.Path.{sym, ◌∙◌}
use native.Mathlib.Omega.{arith}
use Rattle.script_read.specs.Reads.{read_first}
use Rattle.script_run.proofs.Heads.{listed-first, only-pool}
use Rattle.script_run.proofs.first.run_first.Goals as goal
use Rattle.script_run.proofs.first.run_first.Goals.{in_default-via-in-Some+in_default, in_default-via-in_default}

pub returns-in_default : goal.returns-in_default
returns-in_default c =
    elim c.in_default.branch [
      | in_default-via-in-Some+in_default w ↦
          absurd (only-pool w.in_default.field-0.0 (read_first _ _ _ (sym c.read.ensures ∙ w.in_default.is)) (λ q e. grind arith))
      | in_default-via-in_default w ↦ listed-first c.requires (sym c.read.ensures ∙ w.in_default.is) c.put_line.ensures
    ]
