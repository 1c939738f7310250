-- `check_tree::owners_known` meets its contract: of the blocks passed, the highest state and owner bound the rest, and the flag says that
-- state and owner go together.
-- Assumes nothing.
use mathlib.Core.Path.{◌≡◌, sym, ap}
use mathlib.Core.Bool.{Bool, true, not, ◌&&◌, beq}
use mathlib.Core.List.{List}
use Prim.Native.Nat.{ℕ, ◌+◌}
use native.Mathlib.Omega.{arith}
use lib.ListN.{get_or}
use lib.Dec.{eqb, leb}
use Rattle.laws.specs.Tests.{every, every_more, every-none, every-both}
use Rattle.shape.specs.declared.Shape.{Shape}
use Rattle.shape.specs.Blocks.{blocks}
use Rattle.shape.specs.Laws.{limits}
use Rattle.rules.specs.Numbers.{ALLOCATED, ALLOCATING}
use Rattle.rules.specs.Valid.{states_known, owners_known}
use Rattle.check_tree.proofs.Highest.{Highest, highest-none, highest-more}
use Rattle.check_tree.proofs.owners_known.Invariants.{pairs}
use Rattle.check_tree.proofs.owners_known.Goals as goal

pairs-none : (states owners : List ℕ) → true ≡ pairs states owners 0
unfolding pairs
pairs-none states owners = sym (every-none _)

pairs-more :
    (states owners : List ℕ) (k : ℕ) (paired : Bool) → paired ≡ pairs states owners k →
    (paired && beq (eqb (get_or states k 0) ALLOCATED) (not (eqb (get_or owners k 0) 0))) ≡ pairs states owners (k + 1)
unfolding pairs
pairs-more states owners k paired e = rw (e, every_more)

whole :
    (s : Shape) (states owners : List ℕ) (k state owner : ℕ) (paired : Bool) → k ≡ blocks s → Highest states k state →
    Highest owners k owner → paired ≡ pairs states owners k →
    (leb state ALLOCATING && (paired && leb owner s.threads)) ≡ (states_known s states && owners_known s states owners)
unfolding pairs states_known owners_known
whole s states owners k state owner paired e hs ho hp =
    rw (hs.bounds ALLOCATING, ho.bounds s.threads, hp, e)
    (ap (λ (t : Bool). every (blocks s) (λ j. leb (get_or states j 0) ALLOCATING) && t) (sym (every-both (blocks s) _ _)))

pub loop-k-init : goal.loop-k-init
loop-k-init c = (highest-none _, highest-none _, pairs-none _ _)

pub loop-k-preserved : goal.loop-k-preserved
loop-k-preserved c = (
  highest-more _ _ _ _ c.loop-k.invariant.0 c.max-highest_state.ensures,
  highest-more _ _ _ _ c.loop-k.invariant.1 c.max-highest_owner.ensures,
  pairs-more _ _ _ _ c.loop-k.invariant.2,
)

pub overflow_cast-result : goal.overflow_cast-result
overflow_cast-result c = omega (arith, limits c.args.s c.requires.0)

pub returns : goal.returns
returns c =
    whole c.args.s _ _ c.loop-k.k _ _ _ (omega arith) c.loop-k.invariant.0 c.loop-k.invariant.1 c.loop-k.invariant.2
