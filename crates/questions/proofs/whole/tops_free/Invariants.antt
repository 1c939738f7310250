use Rattle.std.proofs.Common.{◌≡◌, get_or, eqb}
use Rattle.laws.specs.Tests.{every}
use Rattle.rules.specs.Numbers.{FREE}
use Rattle.questions.proofs.whole.tops_free.Given as goal

abbrev pub invariant-loop-state : goal.invariant-loop-state
invariant-loop-state l = l.free ≡ every l.state-index (λ b. eqb (get_or l.states b 0) FREE)
