-- `tables_pool::states::merges` meets its contract: the buddies stand together from the first one's place on.
-- Assumes nothing.
use Rattle.std.proofs.Common.{◌||◌, ◌+◌, ◌*◌, ◌/◌, eqb, sym, ◌∙◌, rules, tests, arith}
use Rattle.std.proofs.lemmas.Iterator.{YieldsList-from_slice}
use Rattle.std.proofs.lemmas.Iterator.Consumers.{YieldsList-from_enumerate}
use Rattle.std.proofs.lemmas.Iterator.Search.{all_from_yields_List}
use Rattle.rules.specs.Numbers.{FREE}
use Rattle.shape.specs.Limits.{parts}
use Rattle.tables_pool.proofs.Buddies.{buddies-fit, merges-top, merges-below}
use Rattle.tables_pool.proofs.states.merges.Goals as goal

pub returns-then-l-eq0 : goal.returns-then-l-eq0
returns-then-l-eq0 c = sym (merges-top _ _ _ _ c.if-l-eq0.true)

pub slice_bounds-buddies-end : goal.slice_bounds-buddies-end
unfolding parts
slice_bounds-buddies-end c = omega (arith, buddies-fit c.requires (omega arith))

pub returns : goal.returns
unfolding parts
returns c =
    all_from_yields_List
    (λ p. eqb (4 * (c.args.b / 4) + p.0) c.args.b || eqb p.1 FREE)
    _
    _
    c.all.result
    c.all.ensures.ran
    (YieldsList-from_enumerate (YieldsList-from_slice _ cc) cc)
    (λ x b q k. search (rules, tests))
    ∙ merges-below c.args.s c.args.states.now c.args.l c.args.b c.place-from.result c.requires (omega arith) c.place-from.ensures.0
