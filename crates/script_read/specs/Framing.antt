-- Document 01, 'Script and listing': a field of a script, and whether it is cut off.
-- Assumes nothing.
use Rattle.std.proofs.Math.Path.{◌≡◌, refl}
use Rattle.std.proofs.Common.{sym, arith, length-take, length-drop}
use Rattle.std.specs.Prelude.{Bool, Option, Some, None, List, ℕ, ◌+◌, ◌≤◌, ◌<◌, length, leb}
use Rattle.std.proofs.Math.Bool.{true, false, cond}
use borrow.Author.Tests.{leb-true, le-leb}
use Rattle.laws.specs.Tests.{both, fails}
use Rattle.rules.specs.Script.{tag_at, length_at, value_at, uncut}
use Rattle.script_read.specs.declared.fields.Field.{Field}

-- the field at an offset: its tag, and from where to where its value stands
abbrev pub field_of : List ℕ → ℕ → Field
field_of xs at = record { tag = tag_at xs at; start = at + 3; end = at + 3 + length_at xs at }

unfoldable pub framed : List ℕ → ℕ → Option Field
framed xs at = cond (uncut xs at) (Some (field_of xs at)) None

module _ (xs : List ℕ) (at : ℕ) where
  -- an uncut field ends within the script, and its value has the length that it says
  pub uncut-within : uncut xs at ≡ true → at + 3 + length_at xs at ≤ length xs
  unfolding uncut
  uncut-within e =
      leb-true (at + 3 + length_at xs at) (length xs)
      (both (leb (at + 3) (length xs)) (leb (at + 3 + length_at xs at) (length xs)) e).1

  pub uncut-length : uncut xs at ≡ true → length (value_at xs at) ≡ length_at xs at
  uncut-length e =
      let h : at + 3 + length_at xs at ≤ length xs = uncut-within e in
      simp (length-take, length-drop) (omega arith)

  -- and one that ends within it is uncut
  pub within-uncut : at + 3 + length_at xs at ≤ length xs → uncut xs at ≡ true
  unfolding uncut
  within-uncut h = rw (le-leb (at + 3) (length xs) (omega arith), le-leb (at + 3 + length_at xs at) (length xs) h)

  -- one that the script ends within is cut: in its length, or in its value
  pub past-cut : length xs < at + 3 + length_at xs at → uncut xs at ≡ false
  past-cut h = sym (fails (uncut xs at) (λ e. omega (arith, uncut-within e)))

  -- what was found is the field, uncut
  pub framed-field : (f : Field) → framed xs at ≡ Some f → (uncut xs at ≡ true) × (f ≡ field_of xs at)
  unfolding framed
  framed-field f e = pick (uncut xs at) refl e
    where
      pick :
          (b : Bool) → uncut xs at ≡ b → cond b (Some (field_of xs at)) None ≡ Some f →
          (uncut xs at ≡ true) × (f ≡ field_of xs at)
      pick true u q = (u, cc)
      pick false u q = absurd (let z : ◌≡◌ {A = ℕ} 0 1 = cc in omega arith)

  pub framed-cut : framed xs at ≡ None → uncut xs at ≡ false
  unfolding framed
  framed-cut e = pick (uncut xs at) refl e
    where
      pick : (b : Bool) → uncut xs at ≡ b → cond b (Some (field_of xs at)) None ≡ None → uncut xs at ≡ false
      pick true u q = absurd (let z : ◌≡◌ {A = ℕ} 0 1 = cc in omega arith)
      pick false u q = u
