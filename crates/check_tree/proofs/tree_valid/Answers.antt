-- `check_tree::tree_valid` meets its contract: each pass decides lines of its own, and a line that fails refuses.
-- Assumes nothing.
use native.Mathlib.Omega.{arith}
use mathlib.Core.Path.{sym, ◌∙◌, ap}
use mathlib.Core.Bool.{not}
use lib.Seq.{length-take-le}
use Rattle.shape.specs.Laws.{limits}
use Rattle.check_tree.proofs.Passes.{tops-room, deepest-room, tops-pass, deepest-pass, no-tops, no-deepest, all}
use Rattle.check_tree.proofs.tree_valid.Goals as goal

pub slice_bounds-contains-end : goal.slice_bounds-contains-end
slice_bounds-contains-end c =
    sym (length-take-le _ _ (omega (arith, tops-room c.args.s c.requires.0, c.requires.1)))

pub returns-then-contains : goal.returns-then-contains
returns-then-contains c =
    no-tops _ _ _
    (tops-pass _ _ (omega (arith, tops-room c.args.s c.requires.0, c.requires.1))
    ∙ ap not (sym c.contains.ensures.value ∙ c.if-contains.true))

pub overflow_sub-s : goal.overflow_sub-s
overflow_sub-s c = omega (arith, limits c.args.s c.requires.0)

pub slice_bounds-contains-count : goal.slice_bounds-contains-count
slice_bounds-contains-count c = omega (arith, deepest-room c.args.s, c.requires.1, c.above-deepest.ensures.0)

pub slice_bounds-contains-start : goal.slice_bounds-contains-start
slice_bounds-contains-start c = omega (arith, deepest-room c.args.s, c.requires.1, c.above-deepest.ensures.0)

pub returns-then-contains-2 : goal.returns-then-contains-2
returns-then-contains-2 c =
    no-deepest _ _ _
    (deepest-pass _ _ _ c.requires.0 c.requires.1 c.above-deepest.ensures.0
    ∙ ap not (sym c.contains-2.ensures.value ∙ c.if-contains-2.true))

pub returns : goal.returns
returns c =
    all _ _ _ _
    (sym c.owners_known.ensures ∙ c.if-not-owners_known.false)
    (tops-pass _ _ (omega (arith, tops-room c.args.s c.requires.0, c.requires.1))
    ∙ ap not (sym c.contains.ensures.value ∙ c.if-contains.false))
    (deepest-pass _ _ _ c.requires.0 c.requires.1 c.above-deepest.ensures.0
    ∙ ap not (sym c.contains-2.ensures.value ∙ c.if-contains-2.false))
    c.parts_kept.ensures
