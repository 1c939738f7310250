-- `tables_fresh::list_tops` meets its contract: after b turns the blocks below b are listed.
-- Assumes nothing.
use native.Mathlib.Omega.{arith}
use mathlib.Core.Path.{◌≡◌, ◌∙◌, ap}
use Prim.Native.Nat.{ℕ}
use lib.ListN.{replicate}
use Rattle.laws.specs.Lists.{up_from}
use Rattle.shape.specs.Laws.{limits}
use Rattle.rules.specs.Tables.{fresh, put_list}
use Rattle.tables_fresh.proofs.Tables.{empty, none-listed, listed-ready, one-listed}
use Rattle.tables_fresh.proofs.list_tops.Goals as goal

pub loop-b-init : goal.loop-b-init
loop-b-init c = c.fill.ensures.after (λ y h. h) ∙ ap (λ (n : ℕ). replicate n 0) c.requires.1 ∙ none-listed _ c.requires.0

pub append-requires : goal.append-requires
append-requires c = (
  rw c.loop-b.invariant (listed-ready _ c.requires.0 c.loop-b.b (omega arith)).0,
  rw c.loop-b.invariant (listed-ready _ c.requires.0 c.loop-b.b (omega arith)).1,
  omega (arith, (limits _ c.requires.0).tops.1),
)

pub loop-b-preserved : goal.loop-b-preserved
loop-b-preserved c = c.append.ensures ∙ rw c.loop-b.invariant (one-listed _ c.requires.0 c.loop-b.b (omega arith))

pub returns : goal.returns
unfolding fresh
returns c =
    let s = c.args.s in
    let e : c.loop-b.b ≡ s.tops = omega arith in
    c.loop-b.invariant ∙ ap (λ (n : ℕ). put_list s (empty s) 0 (up_from 0 n)) e
