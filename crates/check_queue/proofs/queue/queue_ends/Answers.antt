-- `check_queue::queue::queue_ends` meets its contract: the flag says whether the length and the places passed are right.
-- Assumes nothing.
use Rattle.std.proofs.Common.{◌≡◌, ◌∙◌, ap, Bool, ◌&&◌, ℕ, ◌+◌, ◌-◌, length, drop, get_or, leb, arith, take_all, length-drop, get_or-drop}
use Rattle.std.proofs.Math.Bool.{and-true, and_assoc}
use Rattle.laws.specs.Tests.{every, every-none, every_more, every_upto}
use Rattle.rules.specs.Valid.{queue_ends}
use Rattle.check_queue.proofs.queue.queue_ends.Invariants.{ended}
use Rattle.check_queue.proofs.queue.queue_ends.Goals as goal

-- one place more
ended-more :
    (a ok : Bool) (f : ℕ → Bool) (i : ℕ) → ok ≡ (a && every i f) → (ok && f i) ≡ (a && every (i + 1) f)
ended-more a ok f i e = rw (every_more, e) (and_assoc a (every i f) (f i))

pub loop-i-init : goal.loop-i-init
loop-i-init c = rw (every-none, and-true, c.from-end.ensures)

pub loop-i-preserved : goal.loop-i-preserved
loop-i-preserved c =
    rw (
      c.from-end.ensures,
      take_all (length c.args.queue.now - 1) (drop 1 c.args.queue.now) (omega (arith, length-drop 1 c.args.queue.now)),
      get_or-drop,
    )
    (ended-more (leb (get_or c.args.queue.now 0 0) c.args.s.threads) _ (ended c.args.queue.now) _ c.loop-i.invariant)

pub returns : goal.returns
unfolding queue_ends
returns c =
    c.loop-i.invariant
    ∙ ap (λ (b : Bool). leb (get_or c.args.queue.now 0 0) c.args.s.threads && b) (every_upto _ _ _ (omega arith))
