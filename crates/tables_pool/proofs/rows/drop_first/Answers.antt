-- `tables_pool::rows::drop_first` meets its contract: the members behind the first one stand one place forward, and the last one's place is cleared.
-- Assumes nothing.
use Rattle.std.proofs.Common.{◌≡◌, ℕ, ◌+◌, ◌-◌, ◌<◌, List, length, set, take, drop, zero-add, arith}
use Rattle.std.specs.List.{copy_within}
use Rattle.laws.specs.Lists.{pad}
use Rattle.laws.specs.Rows.{shifted, shifted_end}
use Rattle.tables_pool.specs.Row.{Ended}
use Rattle.tables_pool.proofs.rows.drop_first.Goals as goal

moved : (n : ℕ) (row : List ℕ) → Ended row n → 0 < n → set (copy_within row 1 n 0) (n - 1) 0 ≡ pad (length row) (drop 1 (take n row))
unfolding shifted
moved n row ended h =
    let e : n - 1 + 1 ≡ n = omega arith in
    rw zero-add (rw e at (shifted_end (n - 1) row (omega (arith, ended.most)) (rw e ended.zeros)))

pub returns : goal.returns
returns c = rw c.copy_within.ensures.after (moved _ _ c.requires.0 c.requires.1)
