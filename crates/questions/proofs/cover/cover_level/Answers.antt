-- `questions::cover::cover_level` meets its contract: no level passed has an undivided block there, so the deepest is the one from here upward.
-- Assumes nothing.
use Rattle.std.proofs.Common.{◌≡◌, refl, sym, ◌∙◌, Bool, true, false, cond, List, get_or, ℕ, zero, suc, ◌-◌, ◌/◌, ◌≤◌, ◌<◌, sub-one, arith}
use Rattle.shape.specs.declared.Shape.{Shape}
use Rattle.shape.specs.Blocks.{size, place}
use Rattle.shape.specs.Laws.{limits}
use Rattle.rules.specs.Questions.{undivided, cover_level}
use Rattle.questions.proofs.cover.cover_level.Goals as goal

-- at a level below the top, where the state of the block over the offset stands at p and is tested
step :
    (s : Shape) (states : List ℕ) (x l block p : ℕ) (v : Bool) → 0 < l → block ≡ x / size s l → p ≡ place s l block →
    undivided (get_or states p 0) ≡ v → cover_level s states x l ≡ cond v l (cover_level s states x (l - 1))
unfolding cover_level
step s states x zero block p v h b q e = absurd (omega arith)
step s states x (suc l) block p v h b q e = rw (rw (q, b) at e, sub-one (suc l))

top : (s : Shape) (states : List ℕ) (x l : ℕ) → l ≤ 0 → cover_level s states x l ≡ 0
unfolding cover_level
top s states x zero h = refl
top s states x (suc l) h = absurd (omega arith)

pub loop-level-init : goal.loop-level-init
loop-level-init c = (omega (arith, limits c.args.s c.requires.0), refl)

pub returns-then-state : goal.returns-then-state
returns-then-state c = (
  sym
      (c.loop-level.invariant.1
      ∙ step _ c.args.states.now _ _ _ _ true
      (omega arith)
      c.block_over.ensures.0
      c.place.ensures.0
      c.if-state.true),
  omega arith,
)

pub loop-level-preserved : goal.loop-level-preserved
loop-level-preserved c = (
  omega arith,
  c.loop-level.invariant.1
      ∙ step _ c.args.states.now _ _ _ _ false
      (omega arith)
      c.block_over.ensures.0
      c.place.ensures.0
      c.if-state.false,
)

pub returns : goal.returns
returns c = (
  sym (c.loop-level.invariant.1 ∙ top _ _ _ _ (omega arith)),
  omega (arith, limits c.args.s c.requires.0),
)
