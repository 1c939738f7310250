-- `rules::lengths::lengths_of` meets its contract: an allowed shape's lengths, or none.
-- Assumes nothing.
use native.Mathlib.Omega.{arith}
use mathlib.Core.Path.{sym, ◌∙◌}
use Rattle.shape.specs.Laws.{limits}
use Rattle.rules.specs.Tables.{table_lengths}
use Rattle.rules.proofs.lengths.lengths_of.Goals as goal

pub returns-then-not-allowed : goal.returns-then-not-allowed
unfolding table_lengths
returns-then-not-allowed c = rw (← c.allowed.ensures, c.if-not-allowed.true)

pub overflow_add-result : goal.overflow_add-result
overflow_add-result c = omega (arith, limits c.args.s (sym c.allowed.ensures ∙ c.if-not-allowed.false))

pub overflow_mul-result : goal.overflow_mul-result
overflow_mul-result c = omega (arith, limits c.args.s (sym c.allowed.ensures ∙ c.if-not-allowed.false))

pub overflow_add-result-2 : goal.overflow_add-result-2
overflow_add-result-2 c = omega (arith, limits c.args.s (sym c.allowed.ensures ∙ c.if-not-allowed.false))

pub returns : goal.returns
unfolding table_lengths
returns c = rw (← c.allowed.ensures, c.if-not-allowed.false, ← c.blocks-blocks.ensures.0)
