-- `questions::cover::block_over` meets its contract: a level's blocks are not empty and fill the pool.
-- Assumes nothing.
use native.Mathlib.Omega.{arith}
use mathlib.Core.Path.{refl}
use Rattle.shape.specs.Laws.{limits}
use Rattle.shape.specs.Offsets.{size-some, over-inside}
use Rattle.questions.proofs.cover.block_over.Goals as goal

pub size-requires : goal.size-requires
size-requires c = omega (arith, limits c.args.s c.requires.0)

pub nonzero_div-result : goal.nonzero_div-result
nonzero_div-result c = omega (arith, size-some _ _ (limits _ c.requires.0) c.requires.2)

pub returns : goal.returns
returns c = rw c.size.ensures (refl, over-inside _ _ _ (limits _ c.requires.0) c.requires.2 c.requires.1)
