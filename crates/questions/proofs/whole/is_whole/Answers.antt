-- `questions::whole::is_whole` meets its contract: each pass decides a line of whole, and the top blocks' places are the first.
-- Assumes nothing.
use Rattle.std.proofs.Common.{arith, zero-add, sym, ◌∙◌}
use Rattle.shape.specs.Laws.{limits, above-none}
use Rattle.shape.specs.Levels.{blocks-parts}
use Rattle.rules.specs.Questions.{is_whole}
use Rattle.questions.proofs.whole.is_whole.Goals as goal

pub tops_free-requires : goal.tops_free-requires
tops_free-requires c = omega (arith, blocks-parts c.args.s (limits _ c.requires.0).levels.0)

pub returns-then-tops_free : goal.returns-then-tops_free
unfolding is_whole
returns-then-tops_free c =
    λ owners lists queue device.
    simp (above-none, zero-add, sym c.tops_free.ensures ∙ c.if-tops_free.true, c.none_open.ensures)

pub returns-else-tops_free : goal.returns-else-tops_free
unfolding is_whole
returns-else-tops_free c =
    λ owners lists queue device.
    simp (above-none, zero-add, c.if-tops_free.false, sym c.tops_free.ensures ∙ c.if-tops_free.false)
