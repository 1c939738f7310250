-- `check_lists::level_valid` meets its contract: what validity says of one level, in the order in which the code tries it.
-- Assumes nothing.
use mathlib.Core.Path.{sym, ◌∙◌}
use Rattle.check_lists.proofs.Level.{level-long, level-zeros, level-below, Tried, level-marks, tried-below}
use Rattle.check_lists.proofs.Marking.{unmarked}
use Rattle.check_lists.proofs.level_valid.Goals as goal

pub returns-then-cells-end : goal.returns-then-cells-end
returns-then-cells-end c = level-long _ _ _ c.if-cells-end.true

pub returns-then-not-all_zero : goal.returns-then-not-all_zero
returns-then-not-all_zero c = level-zeros _ _ _ c.if-cells-end.false (sym c.all_zero.ensures ∙ c.if-not-all_zero.true)

pub returns-then-not-all_below : goal.returns-then-not-all_below
returns-then-not-all_below c = level-below _ _ _ (sym c.all_below.ensures ∙ c.if-not-all_below.true)

pub mark-requires : goal.mark-requires
mark-requires c =
    -- what is known behind the third test
    let t : Tried c.args.states.now c.args.cells.now c.args.used =
    record {
      fits = c.if-cells-end.false;
      rest = sym c.all_zero.ensures ∙ c.if-not-all_zero.false;
      inside = sym c.all_below.ensures ∙ c.if-not-all_below.false;
    } in
    (tried-below t c.requires.0, unmarked)

pub returns : goal.returns
returns c =
    -- what is known behind the third test
    let t : Tried c.args.states.now c.args.cells.now c.args.used =
    record {
      fits = c.if-cells-end.false;
      rest = sym c.all_zero.ensures ∙ c.if-not-all_zero.false;
      inside = sym c.all_below.ensures ∙ c.if-not-all_below.false;
    } in
    level-marks c.mark.new.marks t c.requires.0 c.mark.ensures c.count_of.ensures c.all_marked.ensures
