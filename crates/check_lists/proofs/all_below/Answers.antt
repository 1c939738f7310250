-- `check_lists::all_below` meets its contract: the test is the closure's.
-- Assumes nothing.
use Rattle.std.proofs.Common.{of_calls, ltb}
use Rattle.check_lists.proofs.all_below.Goals as goal

pub returns : goal.returns
returns c = c.all_pass.ensures (λ x. ltb x c.args.bound) (λ x b p. search of_calls)
