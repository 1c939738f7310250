-- Document 01, 'On either side of the lines': every row of the cases holds.
-- Assumes nothing.
use Rattle.proved_cases.specs.Table.{Holds, agree-holds}
use Rattle.proved_cases.specs.Cases.{cases, cases-agree}

-- every row's two sides agree
pub cases-hold : Holds cases
cases-hold = agree-holds cases cases-agree
