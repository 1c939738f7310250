-- `shape::Shape::level_for` meets its contract: no level passed is large enough, so the level for the request is the one from here upward.
-- Assumes nothing.
use Rattle.std.proofs.Common.{◌≡◌, refl, sym, ◌∙◌, ℕ, zero, suc, ◌-◌, ◌≤◌, ◌<◌, arith, le-leb}
use Rattle.std.proofs.lemmas.Bool.{lt-leb}
use Rattle.shape.specs.declared.Shape.{Shape}
use Rattle.shape.specs.Blocks.{size, level_from, level_for}
use Rattle.shape.specs.Laws.{limits}
use Rattle.shape.proofs.Shape.level_for.Goals as goal

-- at a level that is large enough, and at one that is not
here : (s : Shape) (l request : ℕ) → 0 < l → request ≤ size s l → level_from s l request ≡ l
unfolding level_from
here s zero request h k = absurd (omega arith)
here s (suc l) request h k = rw (le-leb request (size s (suc l)) k)

higher : (s : Shape) (l request : ℕ) → 0 < l → size s l < request → level_from s l request ≡ level_from s (l - 1) request
unfolding level_from
higher s zero request h k = absurd (omega arith)
higher s (suc l) request h k = rw (lt-leb request (size s (suc l)) k, less)
  where
    less : suc l - 1 ≡ l
    less = omega arith

top : (s : Shape) (l request : ℕ) → l ≤ 0 → level_from s l request ≡ 0
unfolding level_from
top s zero request h = refl
top s (suc l) request h = absurd (omega arith)

pub loop-level-init : goal.loop-level-init
unfolding level_for
loop-level-init c = (omega (arith, limits c.args.self c.requires), refl)

pub size-requires : goal.size-requires
size-requires c = omega (arith, limits c.args.self c.requires)

pub returns-then-request-size : goal.returns-then-request-size
returns-then-request-size c =
    sym
    (c.loop-level.invariant.1
    ∙ here
    c.args.self
    (c.loop-level.level - 1)
    c.args.request
    (omega arith)
    (rw (← c.size.ensures) c.if-request-size.true))

pub loop-level-preserved : goal.loop-level-preserved
loop-level-preserved c = (
  omega arith,
  c.loop-level.invariant.1
      ∙ higher
      c.args.self
      (c.loop-level.level - 1)
      c.args.request
      (omega arith)
      (rw (← c.size.ensures) c.if-request-size.false),
)

pub returns : goal.returns
returns c =
    sym
    (c.loop-level.invariant.1
    ∙ top c.args.self (c.loop-level.level - 1) c.args.request (omega arith))
