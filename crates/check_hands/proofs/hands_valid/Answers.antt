-- `check_hands::hands_valid` meets its contract: of the calls passed the sum counts those with a block in hand, and the flag says whether
-- each of these is alone with a block of its state.
-- Assumes nothing.
use Rattle.std.proofs.Common.{inl, inr, arith}
use Rattle.shape.specs.Laws.{limits}
use Rattle.check_hands.proofs.Passed.{looked-none, looked-most, looked-hand, looked-other, held, looked-all}
use Rattle.check_hands.proofs.hands_valid.Goals.{in-3, in-4}
use Rattle.check_hands.proofs.hands_valid.Goals as goal

pub loop-t-init : goal.loop-t-init
loop-t-init c = looked-none _ _ _

pub loop-t-preserved-in_default : goal.loop-t-preserved-in_default
loop-t-preserved-in_default c = looked-other _ _ _ _ _ c.call_of-c.ensures c.loop-t.invariant (λ e. omega arith) (λ e. omega arith)

pub alone-ok-requires : goal.alone-ok-requires
alone-ok-requires c =
    held _ _ _ c.requires _ _ _ c.loop-t-test.true c.call_of-c.ensures
    (elim c.match-c.branch [ in-3 w ↦ inl (w.in-3.is, w.state-is) | in-4 w ↦ inr (w.in-4.is, w.state-is) ])

pub overflow_add-sum : goal.overflow_add-sum
overflow_add-sum c = omega (arith, looked-most c.loop-t.invariant, limits _ c.requires.0)

pub loop-t-preserved : goal.loop-t-preserved
loop-t-preserved c =
    looked-hand _ _ _ _ _ c.call_of-c.ensures c.loop-t.invariant
    (elim c.match-c.branch [ in-3 w ↦ inl (w.in-3.is, w.state-is) | in-4 w ↦ inr (w.in-4.is, w.state-is) ]) c.alone-ok.ensures

pub returns : goal.returns
returns c = looked-all _ _ _ c.requires c.loop-t.invariant (omega arith) c.count_of.ensures
