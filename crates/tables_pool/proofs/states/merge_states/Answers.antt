-- `tables_pool::states::merge_states` meets its contract: the buddies stand together from the first one's place on, and their parent has a place above.
-- Assumes nothing.
use Rattle.std.proofs.Common.{◌≡◌, ◌+◌, ◌≤◌, length, replicate, refl, rules, arith}
use Rattle.shape.specs.Limits.{parts}
use Rattle.shape.specs.Sections.{parent-inside}
use Rattle.rules.specs.Numbers.{NOEXIST}
use Rattle.tables_pool.proofs.Buddies.{buddies-fit}
use Rattle.tables_pool.proofs.Parts.{filled}
use Rattle.tables_pool.proofs.states.merge_states.Goals as goal

pub slice_bounds-fill-end : goal.slice_bounds-fill-end
unfolding parts
slice_bounds-fill-end c = omega (arith, buddies-fit c.requires.0 c.requires.1)

pub place-at-requires : goal.place-at-requires
unfolding parts
place-at-requires c = (
  c.requires.0.shape,
  omega arith,
  parent-inside
      c.args.s
      c.args.l
      c.args.b
      c.requires.1
      c.requires.0.block,
)

pub returns : goal.returns
unfolding parts
returns c =
    let from = c.place-from.result in
    let inside : from + 4 ≤ length c.args.states.now = omega (arith, buddies-fit c.requires.0 c.requires.1) in
    let all : c.fill.new.self ≡ replicate 4 NOEXIST = search rules in
    rw (filled from 4 NOEXIST c.args.states.now c.fill.new.self (from + 4) refl inside all, c.place-at.ensures.0, c.place-from.ensures.0)
