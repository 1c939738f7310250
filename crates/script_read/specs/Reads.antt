-- What reading at an offset of a script finds: where the next record starts, and that the shape stands first and only there.
-- Assumes nothing.
use Rattle.std.proofs.Math.Path.{◌≡◌, refl, ap}
use Rattle.std.proofs.Common.{Some, None, Option, sym, ◌∙◌, arith, eqb-true}
use Rattle.std.specs.Prelude.{Bool, not, ◌&&◌, List, ℕ, ◌+◌, ◌≤◌, length, eqb}
use Rattle.std.proofs.Math.Bool.{true, false, cond}
use Rattle.laws.specs.Tests.{both}
use Rattle.rules.specs.declared.script.Record.{Record}
use Rattle.rules.specs.Numbers.{SHAPE-TAG}
use Rattle.rules.specs.Script.{decode, tag_at, length_at, value_at, uncut, placed, found, read_at}
use Rattle.script_read.specs.Framing.{uncut-within}
use Rattle.script_read.specs.Forms.{tag_of, is_pool, decode-tag}

-- a record that is read stands there uncut, in its place, and the next one starts behind it
pub record Stands (xs : List ℕ) (at : ℕ) (r : Record) (next : ℕ) : Type 0 where
  pub whole : uncut xs at ≡ true
  pub in_place : placed xs at ≡ true
  pub decoded : decode (tag_at xs at) (value_at xs at) ≡ Some r
  pub behind : next ≡ at + 3 + length_at xs at

-- in its place it is a shape where it is first
placed-is : (first shape : Bool) → cond first shape (not shape) ≡ true → shape ≡ first
placed-is true shape e = e
placed-is false true e = sym e
placed-is false false e = refl

module _ (xs : List ℕ) (at : ℕ) (r : Record) (next : ℕ) (e : read_at xs at ≡ Some (r, next)) where
  pub read-stands : Stands xs at r next
  unfolding read_at
  read-stands = pick (uncut xs at && placed xs at) refl (decode (tag_at xs at) (value_at xs at)) refl e
    where
      pick :
          (b : Bool) → (uncut xs at && placed xs at) ≡ b → (d : Option Record) → decode (tag_at xs at) (value_at xs at) ≡ d →
          cond b (found d (at + 3 + length_at xs at)) None ≡ Some (r, next) → Stands xs at r next
      pick true t (Some x) s q =
          let same : (x, at + 3 + length_at xs at) ≡ (r, next) = cc in
          record {
            whole = (both (uncut xs at) (placed xs at) t).0;
            in_place = (both (uncut xs at) (placed xs at) t).1;
            decoded = s ∙ ap (λ (y : Record × ℕ). Some y.0) same;
            behind = sym (ap (λ (y : Record × ℕ). y.1) same);
          }
      pick true t None s q = absurd (let z : ◌≡◌ {A = ℕ} 0 1 = cc in omega arith)
      pick false t d s q = absurd (let z : ◌≡◌ {A = ℕ} 0 1 = cc in omega arith)

  -- the next record starts behind this one, and within the script or at its end
  pub read_next : (at + 3 ≤ next) × (next ≤ length xs)
  read_next = omega (arith, read-stands.behind, uncut-within xs at read-stands.whole)

  -- a record has the tag that stands there
  pub read-tag : tag_of r ≡ tag_at xs at
  read-tag = decode-tag (tag_at xs at) (value_at xs at) r read-stands.decoded

  -- the first record is a shape, and no other is
  pub read-place : is_pool r ≡ eqb at 0
  unfolding placed
  read-place = rw read-tag (placed-is (eqb at 0) (eqb (tag_at xs at) SHAPE-TAG) read-stands.in_place)

  pub read-pool : is_pool r ≡ true → at ≡ 0
  read-pool p = eqb-true at 0 (sym read-place ∙ p)

pub read_first : (xs : List ℕ) (r : Record) (next : ℕ) → read_at xs 0 ≡ Some (r, next) → is_pool r ≡ true
read_first xs r next e = read-place xs 0 r next e
