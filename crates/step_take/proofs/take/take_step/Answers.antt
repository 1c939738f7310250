-- `step_take::take::take_step` meets its contract: at each return what the length of the list says, and what was put, give the rule's outcome.
-- Assumes nothing.
use native.Mathlib.Omega.{arith}
use mathlib.Core.Path.{◌∙◌}
use Rattle.facts.specs.Lists.{length-free_list}
use Rattle.step_take.proofs.Moves.{again, taken}
use Rattle.step_take.proofs.take.take_step.Goals as goal

pub returns-then-lists-l-eq0 : goal.returns-then-lists-l-eq0
returns-then-lists-l-eq0 c =
    λ owners queue d.
    again c.args.s c.args.states.now owners c.args.lists.now c.args.calls.now queue d c.args.t c.args.c
    (length-free_list c.args.s c.args.lists.now c.args.c.level c.requires.list.whole c.requires.list.level c.requires.list.most ∙ c.if-lists-l-eq0.true)
    c.put_call.ensures c.moved.ensures

pub returns : goal.returns
returns c =
    λ owners queue d.
    taken c.args.s c.args.states.now owners c.args.lists.now c.args.calls.now queue d c.args.t c.args.c
    (omega (arith, length-free_list c.args.s c.args.lists.now c.args.c.level c.requires.list.whole c.requires.list.level c.requires.list.most, c.if-lists-l-eq0.false))
    c.first-b.ensures c.drop_first.ensures c.put_state.ensures c.put_call-2.ensures c.holding.ensures c.id.ensures
