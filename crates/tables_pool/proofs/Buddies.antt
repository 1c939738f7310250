-- A block's buddies in the table of states.
-- Assumes nothing.
use Rattle.std.proofs.Common.{◌≡◌, ℕ, ◌+◌, ◌*◌, ◌-◌, ◌≤◌, ◌<◌, false, ◌||◌, List, length, get_or, eqb, ap, ◌∙◌, zero-add, lt-ltb, arith}
use Rattle.std.specs.List.{list_all, enumerate_from}
use borrow.Rule.Slice.PartMut.{mid_of}
use Rattle.laws.specs.Tests.{every-same}
use Rattle.laws.specs.Rows.{row, length-row, get_or-row}
use Rattle.shape.specs.declared.Shape.{Shape}
use Rattle.shape.specs.Limits.{parts, most_count}
use Rattle.shape.specs.Blocks.{count, place}
use Rattle.shape.specs.Laws.{limits, parts-pos, count-range}
use Rattle.shape.specs.Sections.{part-inside, buddy-inside, buddies-placed}
use Rattle.rules.specs.Numbers.{FREE}
use Rattle.rules.specs.Steps.{first_buddy, merges}
use Rattle.tables_pool.specs.Cells.{HasBlock}
use Rattle.tables_pool.proofs.Numbered.{every-numbered}

pub block-short : {s : Shape} {cells : List ℕ} {l b : ℕ} → HasBlock s cells l b → b < most_count
block-short {s} {cells} {l} {b} h = omega (arith, count-range s l (limits s h.shape) h.level, h.block)

-- the first part and the first buddy are blocks of their levels
pub first_part : {s : Shape} {cells : List ℕ} {l b : ℕ} → HasBlock s cells l b → parts s * b < count s (l + 1)
first_part {s} {cells} {l} {b} h = omega (arith, part-inside s l b 0 h.block (parts-pos s))

pub first-buddy : {s : Shape} {cells : List ℕ} {l b : ℕ} → HasBlock s cells l b → 0 < l → first_buddy s b < count s l
first-buddy {s} {cells} {l} {b} h k = omega (arith, buddy-inside s l b 0 k h.block (parts-pos s))

-- the buddies have places in the table
pub buddies-fit :
    {s : Shape} {cells : List ℕ} {l b : ℕ} → HasBlock s cells l b → 0 < l →
    place s l (first_buddy s b) + parts s ≤ length cells
buddies-fit {s} {cells} {l} {b} h k = rw h.whole (buddies-placed s l b k h.level h.block)

-- top blocks never merge
pub merges-top : (s : Shape) (states : List ℕ) (l b : ℕ) → l ≡ 0 → merges s states l b ≡ false
unfolding merges
merges-top s states l b e = rw e

-- the buddies' states stand together
pub merges-below :
    (s : Shape) (states : List ℕ) (l b from : ℕ) → HasBlock s states l b → 0 < l → from ≡ place s l (first_buddy s b) →
    list_all (λ p. eqb (first_buddy s b + p.0) b || eqb p.1 FREE) (enumerate_from 0 (mid_of from (from + parts s - from) states))
    ≡ merges s states l b
unfolding merges row
merges-below s states l b from h k e =
    let wide : from + parts s - from ≡ parts s = omega arith in
    let inside : from + parts s ≤ length states = omega (arith, buddies-fit h k) in
    rw (wide, lt-ltb 0 l k)
    (every-numbered _ 0 (row from (parts s) states)
    ∙ rw (length-row from (parts s) states inside)
    (every-same (parts s) _ _
    (λ j m. rw (zero-add, get_or-row from (parts s) states j m) (ap (λ n. eqb (first_buddy s b + j) b || eqb (get_or states n 0) FREE) (omega arith)))))
