-- `tables_pool::deepest` meets its contract: no level passed has a FREE block, so the deepest with one is among those from here upward.
-- Assumes nothing.
use Rattle.std.proofs.Common.{Some, None, ◌≡◌, ℕ, zero, suc, ◌<◌, ◌≤◌, ◌-◌, List, get_or, sym, ◌∙◌, arith, lt-ltb, le-ltb, sub-one}
use Rattle.rules.specs.Steps.{deepest}
use Rattle.tables_pool.proofs.deepest.Goals as goal

here : (lists : List ℕ) (l : ℕ) → 0 < get_or lists l 0 → deepest lists l ≡ Some l
unfolding deepest
here lists zero h = rw (lt-ltb 0 (get_or lists 0 0) h)
here lists (suc l) h = rw (lt-ltb 0 (get_or lists (suc l) 0) h)

higher : (lists : List ℕ) (l : ℕ) → 0 < l → get_or lists l 0 ≤ 0 → deepest lists l ≡ deepest lists (l - 1)
unfolding deepest
higher lists zero h k = absurd (omega arith)
higher lists (suc l) h k = rw (sub-one, le-ltb 0 (get_or lists (suc l) 0) k)

none : (lists : List ℕ) (l : ℕ) → l ≤ 0 → get_or lists l 0 ≤ 0 → deepest lists l ≡ None
unfolding deepest
none lists zero h k = rw (le-ltb 0 (get_or lists 0 0) k)
none lists (suc l) h k = absurd (omega arith)

pub returns-then-lists-l-gt0 : goal.returns-then-lists-l-gt0
returns-then-lists-l-gt0 c = sym (c.loop-l.invariant ∙ here _ c.loop-l.l c.if-lists-l-gt0.true)

pub loop-l-preserved : goal.loop-l-preserved
loop-l-preserved c = c.loop-l.invariant ∙ higher _ c.loop-l.l (omega arith) c.if-lists-l-gt0.false

pub returns-else-lists-l-gt0 : goal.returns-else-lists-l-gt0
returns-else-lists-l-gt0 c = sym (c.loop-l.invariant ∙ none _ c.loop-l.l (omega arith) c.if-lists-l-gt0.false)
