-- `tables_pool::states::split_states` meets its contract: the parts stand together from the first one's place on.
-- Assumes nothing.
use Rattle.std.proofs.Common.{◌≡◌, ◌+◌, ◌≤◌, length, set, replicate, ◌∙◌, rules, arith, add-one, length-set}
use Rattle.shape.specs.Limits.{parts}
use Rattle.shape.specs.Sections.{parts-placed}
use Rattle.rules.specs.Numbers.{FREE, DIVIDED, ALLOCATING}
use Rattle.tables_pool.proofs.Buddies.{block-short, first_part}
use Rattle.tables_pool.proofs.Parts.{filled}
use Rattle.tables_pool.proofs.states.split_states.Goals as goal

pub overflow_mul-b : goal.overflow_mul-b
overflow_mul-b c = omega (arith, block-short c.requires.0)

pub place-from-requires : goal.place-from-requires
unfolding parts
place-from-requires c = (c.requires.0.shape, c.requires.1, first_part c.requires.0)

pub slice_bounds-fill-end : goal.slice_bounds-fill-end
unfolding parts
slice_bounds-fill-end c =
    simp length-set
    (omega (
      arith,
      parts-placed
          c.args.s
          c.args.l
          c.args.b
          c.requires.1
          c.requires.0.block,
    ))

pub returns : goal.returns
unfolding parts
returns c =
    let from = c.place-from.result in
    let inside : from + 1 + 3 ≤ length (set (set c.args.states.now c.place-at.result DIVIDED) from ALLOCATING) =
    simp length-set (omega (arith, parts-placed c.args.s c.args.l c.args.b c.requires.1 c.requires.0.block)) in
    let all : c.fill.new.self ≡ replicate 3 FREE = search rules in
    filled (from + 1) 3 FREE _ c.fill.new.self (from + 4) (omega arith) inside all
    ∙ rw (add-one from, c.place-at.ensures.0, c.place-from.ensures.0)
