-- `tables_pool::rows::remove_parts` meets its contract: after i turns those of the first i members that are no parts of the block stand in front.
-- Assumes nothing.
use native.Mathlib.Omega.{arith}
use mathlib.Core.Path.{ap}
use mathlib.Core.Bool.{not}
use borrow.Author.Tests.{eq-eqb, ne_eqb}
use Rattle.tables_pool.proofs.Sifting.{sifting-none, sifting-pass, sifting-fail, sifting-all}
use Rattle.tables_pool.proofs.rows.remove_parts.Goals as goal
use Rattle.tables_pool.proofs.rows.remove_parts.Goals.{then-b-parts, else-b-parts}

pub loop-i-init : goal.loop-i-init
loop-i-init c = sifting-none _ _

pub loop-i-preserved : goal.loop-i-preserved
loop-i-preserved c =
    elim c.if-b-parts.branch [
      | then-b-parts w ↦ rw (w.row-is, w.kept-is) (sifting-pass c.loop-i.invariant (omega arith) (ap not (ne_eqb _ _ w.if-b-parts.true)))
      | else-b-parts w ↦ rw (w.row-is, w.kept-is) (sifting-fail c.loop-i.invariant (omega arith) (ap not (eq-eqb _ _ w.if-b-parts.false)))
    ]

pub returns : goal.returns
returns c = sifting-all c.loop-i.invariant _ (omega arith) c.requires.0
