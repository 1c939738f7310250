-- `shape::Shape::allowed` meets its contract: the tests are the definition's own, and a number of levels outside its limits fails it.
-- Assumes nothing.
use Rattle.std.proofs.Common.{◌≡◌, sym, ◌∙◌, cond, ℕ, ◌&&◌, leb, ltb, eqb, ◌%◌, ◌*◌, arith, rules, ap₂, is_le, Less, Equal, Greater}
use Rattle.std.proofs.lemmas.Bool.Decides.{nat_tests}
use Rattle.std.proofs.Math.Bool.{and-true}
use Rattle.laws.specs.Tests.{fails}
use Rattle.shape.specs.Limits.{unit, allowed, most_levels, most_threads, most_tops, most_top_size}
use Rattle.shape.specs.Laws.{limits}
use Rattle.shape.proofs.Shape.allowed.Goals as goal

-- a comparison's `<=` is a test
tested : (m n : ℕ) → is_le (cond (ltb m n) Less (cond (eqb m n) Equal Greater)) ≡ leb m n
tested m n = grind (arith, nat_tests)

pub returns-then-not-contains : goal.returns-then-not-contains
returns-then-not-contains c = fails _ (λ e. let l = limits c.args.self e in search rules)

pub returns : goal.returns
unfolding allowed unit
returns c =
    let s = c.args.self in
    let levels : c.contains.result ≡ (leb 1 s.levels && leb s.levels most_levels) =
    rw (c.contains.ensures.value, c.new.ensures.start, c.new.ensures.exhausted, c.new.ensures.end)
    (ap₂ ◌&&◌ (tested 1 s.levels) (tested s.levels most_levels)) in
    let threads : c.contains-2.result ≡ (leb 1 s.threads && leb s.threads most_threads) =
    rw (c.contains-2.ensures.value, c.new-2.ensures.start, c.new-2.ensures.exhausted, c.new-2.ensures.end)
    (ap₂ ◌&&◌ (tested 1 s.threads) (tested s.threads most_threads)) in
    let tops : c.contains-3.result ≡ (leb 1 s.tops && leb s.tops most_tops) =
    rw (c.contains-3.ensures.value, c.new-3.ensures.start, c.new-3.ensures.exhausted, c.new-3.ensures.end)
    (ap₂ ◌&&◌ (tested 1 s.tops) (tested s.tops most_tops)) in
    let top : c.contains-4.result ≡ (leb 1 s.top_size && leb s.top_size most_top_size) =
    rw (c.contains-4.ensures.value, c.new-4.ensures.start, c.new-4.ensures.exhausted, c.new-4.ensures.end)
    (ap₂ ◌&&◌ (tested 1 s.top_size) (tested s.top_size most_top_size)) in
    let multiple : c.is_multiple_of.result ≡ eqb (s.top_size % (4 * c.power-unit.result)) 0 = search (rules, c.is_multiple_of.ensures) in
    rw (threads, tops, top, multiple, c.power-unit.ensures.0, sym levels ∙ c.if-not-contains.false, and-true)
