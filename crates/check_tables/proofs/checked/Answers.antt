-- `check_tables::checked` meets its contract: the tests are made in the order of the verdict.
-- Assumes nothing.
use Rattle.std.specs.Prelude.{Err}
use Rattle.std.proofs.Common.{sym, ◌∙◌}
use Rattle.std.proofs.lemmas.Result.{err_from_is_err_and}
use Rattle.rules.specs.Tables.{state}
use Rattle.rules.specs.Refusals.{verdict}
use Rattle.facts.specs.Given.{length-facts}
use Rattle.facts.specs.Verdict.{fitting-passed, stops, goes}
use Rattle.check_tables.proofs.checked.Goals as goal

pub returns-in_err-fitting : goal.returns-in_err-fitting
unfolding verdict
returns-in_err-fitting c =
    let p = err_from_is_err_and c.from_residual.result c.from_residual.ensures.1 in
    rw (p.1, p.2) (stops Err _ (c.fitting.ensures c.args.d) c.in_err-fitting.was)

pub tables_valid-requires : goal.tables_valid-requires
tables_valid-requires c =
    let tables = state c.args.states.now c.args.owners.now c.args.lists.now c.args.calls.now c.args.queue.now c.args.d in
    let passed = fitting-passed c.args.s tables (sym (c.fitting.ensures c.args.d) ∙ c.in_ok-fitting.was) in
    (passed.0, length-facts c.args.s tables passed.1)

pub returns-then-not-tables_valid : goal.returns-then-not-tables_valid
unfolding verdict
returns-then-not-tables_valid c =
    goes Err _ (c.fitting.ensures c.args.d) c.in_ok-fitting.was
    (rw (← c.tables_valid.ensures, c.if-not-tables_valid.true))

pub returns : goal.returns
unfolding verdict
returns c =
    goes Err _ (c.fitting.ensures c.args.d) c.in_ok-fitting.was
    (rw (← c.tables_valid.ensures, c.if-not-tables_valid.false))
