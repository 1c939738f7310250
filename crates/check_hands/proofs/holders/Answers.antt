-- `check_hands::holders` meets its contract: the sum counts, of the calls passed, those that have the block in hand.
-- Assumes nothing.
use Rattle.std.proofs.Common.{sym, Bool, ℕ, ◌+◌, arith}
use Rattle.laws.specs.Tests.{tally-none, tally-more, tally-most}
use Rattle.rules.specs.Tables.{call_of}
use Rattle.rules.specs.Valid.{in_hand}
use Rattle.check_hands.specs.Hands.{at_stage}
use Rattle.check_hands.proofs.holders.Goals as goal

pub loop-t-init : goal.loop-t-init
loop-t-init c = sym (tally-none _)

-- one call more, so no more than there are threads
pub overflow_add-sum : goal.overflow_add-sum
overflow_add-sum c =
    let test : ℕ → Bool = λ u. in_hand (at_stage c.args.stage) c.args.level c.args.block (call_of c.args.calls.now u) in
    omega (arith, c.loop-t.invariant, rw (tally-more, ← c.call_of-c.ensures) at (tally-most (c.loop-t.t + 1) test))

pub loop-t-preserved : goal.loop-t-preserved
loop-t-preserved c = rw (tally-more, c.loop-t.invariant, c.call_of-c.ensures)
