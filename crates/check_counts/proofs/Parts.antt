-- The first states are counted, and a part of those that are left is counted as well.
-- Assumes nothing.
use Rattle.std.specs.Prelude.{◌≡◌, List, ℕ, ◌+◌, ◌-◌, ◌≤◌, length, take, drop}
use Rattle.std.proofs.Common.{sym, ap, arith, length-drop, take_all}
use Rattle.check_counts.specs.Counted.{few, counted, Passed, passed-part}

module _ {states left : List ℕ} {one other i n m : ℕ} (p : Passed states one other i n) (e : left ≡ drop i states) where
  -- a part of a few
  pub passed-few :
      {part : List ℕ} → few ≤ length left → part ≡ take few left → m ≡ counted part one other →
      Passed states one other (i + few) (n + m)
  passed-few k f h =
      let same : few ≡ i + few - i = omega arith in
      passed-part (i + few) p (omega arith) (omega (arith, p.inside, k, ap length e, length-drop i states))
      (rw (h, f, e) (ap (λ (k : ℕ). counted (take k (drop i states)) one other) same))

  -- all that are left
  pub passed-left : m ≡ counted left one other → Passed states one other (length states) (n + m)
  passed-left h =
      passed-part (length states) p p.inside (omega arith)
      (rw (h, e) (ap (λ (l : List ℕ). counted l one other) (sym (take_all _ _ (omega (arith, length-drop i states))))))
