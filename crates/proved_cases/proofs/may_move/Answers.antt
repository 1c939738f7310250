-- `proved_cases::may_move` meets its contract: that the six-by-six table is the rules' list of moves is a test at each of its 36 places.
-- Assumes nothing.
use borrow.Author.Rules.{rules}
use Rattle.laws.specs.Tests.{every-at}
use Rattle.facts.specs.Stage.{alike}
use Rattle.proved_cases.proofs.Rows.{agrees}
use Rattle.proved_cases.proofs.may_move.Goals as goal

pub returns : goal.returns
returns c =
    alike _ _
    (every-at 6 _ (every-at 6 _ agrees c.args.from (search rules)) c.args.to (search rules))
