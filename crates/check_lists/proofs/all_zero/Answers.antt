-- `check_lists::all_zero` meets its contract: the test is the closure's.
-- Assumes nothing.
use Rattle.std.proofs.Common.{of_calls, eqb}
use Rattle.check_lists.proofs.all_zero.Goals as goal

pub returns : goal.returns
returns c = c.all_pass.ensures (λ x. eqb x 0) (λ x b p. search of_calls)
