-- `check_lists::all_pass` meets its contract: the flag is the test of every cell passed.
-- Assumes nothing.
use Rattle.std.proofs.Common.{sym, ◌∙◌, get_or, arith}
use Rattle.laws.specs.Tests.{every-none, every_upto}
use Rattle.check_lists.proofs.Laws.{flag-more}
use Rattle.check_lists.proofs.all_pass.Goals as goal

pub loop-cell-init : goal.loop-cell-init
loop-cell-init g c = λ test h. sym (every-none _)

pub loop-cell-preserved : goal.loop-cell-preserved
loop-cell-preserved g c = λ test h.
    rw (h _ _ c.passes-ok.ensures) (flag-more (λ i. test (get_or c.args.cells.now i 0)) _ (c.loop-cell.invariant test h))

pub returns : goal.returns
returns g c = λ test h. c.loop-cell.invariant test h ∙ every_upto _ _ _ (omega arith)
