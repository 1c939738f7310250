-- `step_release::release::release_step` meets its contract: a block that merges lies below level 0.
-- Assumes nothing.
use Rattle.std.proofs.Common.{◌≡◌, ℕ, ◌<◌, true, List, sym, ◌∙◌, ltb-true}
use Rattle.laws.specs.Tests.{both}
use Rattle.shape.specs.declared.Shape.{Shape}
use Rattle.rules.specs.Steps.{merges}
use Rattle.step_release.proofs.release.release_step.Goals as goal

below : (s : Shape) (states : List ℕ) (l b : ℕ) → merges s states l b ≡ true → 0 < l
unfolding merges
below s states l b e = ltb-true 0 l (both _ _ e).0

pub merge_step-requires : goal.merge_step-requires
merge_step-requires c =
    record {
      mine = c.requires.mine;
      hand = c.requires.hand;
      list = c.requires.list;
      below = below c.args.s c.args.states.now c.args.c.level c.args.c.block (sym c.merges.ensures ∙ c.if-merges.true);
    }
