-- What was read by its field: cut, misplaced, or what its tag and value say.
-- Assumes nothing.
use mathlib.Core.Path.{◌≡◌, refl, ◌∙◌}
use mathlib.Core.Bool.{Bool, true, false, not, cond, beq}
use mathlib.Core.List.{List}
use Prim.Native.Nat.{ℕ, ◌+◌, ◌-◌, ◌≤◌}
use native.Mathlib.Omega.{arith}
use lib.ListN.{length, take, drop}
use lib.Dec.{eqb}
use Rattle.std.specs.Prelude.{Some, None}
use Rattle.rules.specs.Numbers.{SHAPE-TAG}
use Rattle.rules.specs.Script.{decode, tag_at, length_at, uncut, placed, found, read_at}
use Rattle.script_read.specs.declared.fields.Field.{Field}
use Rattle.script_read.specs.Framing.{framed, field_of, uncut-within, within-uncut, past-cut, framed-field, framed-cut}
use Rattle.rules.specs.declared.script.Record.{Record}

-- the place as the code tests it: that it is first and that it is a shape are both so or both not
together : (first shape : Bool) → cond first shape (not shape) ≡ beq first shape
together true true = refl
together true false = refl
together false true = refl
together false false = refl

turned : (b c : Bool) → not b ≡ c → b ≡ not c
turned true c e = rw (← e)
turned false c e = rw (← e)

pub cut : (xs : List ℕ) (at : ℕ) → framed xs at ≡ None → None ≡ read_at xs at
unfolding read_at
cut xs at e = rw (framed-cut xs at e)

module _ (xs : List ℕ) (at : ℕ) (f : Field) (e : framed xs at ≡ Some f) where
  is : f ≡ field_of xs at
  is = (framed-field xs at f e).1

  whole : uncut xs at ≡ true
  whole = (framed-field xs at f e).0

  place : (c : Bool) → not (beq (eqb at 0) (eqb f.tag SHAPE-TAG)) ≡ c → placed xs at ≡ not c
  unfolding placed
  place c h =
      together (eqb at 0) (eqb (tag_at xs at) SHAPE-TAG)
      ∙ turned (beq (eqb at 0) (eqb (tag_at xs at) SHAPE-TAG)) c (rw is at h)

  pub misplaced : not (beq (eqb at 0) (eqb f.tag SHAPE-TAG)) ≡ true → None ≡ read_at xs at
  unfolding read_at
  misplaced h = rw (whole, place true h)

  -- the value lies within the script
  pub value-within : (f.start ≤ f.end) × (f.end ≤ length xs)
  value-within = rw is (omega (arith, uncut-within xs at whole))

  -- it says a record, or none
  module _ (h : not (beq (eqb at 0) (eqb f.tag SHAPE-TAG)) ≡ false) where
    reads : found (decode f.tag (take (f.end - f.start) (drop f.start xs))) f.end ≡ read_at xs at
    unfolding read_at
    reads =
        let same : at + 3 + length_at xs at - (at + 3) ≡ length_at xs at = omega arith in
        rw (is, same, whole, place false h)

    pub reads-none : decode f.tag (take (f.end - f.start) (drop f.start xs)) ≡ None → None ≡ read_at xs at
    reads-none q = rw (← reads, q)

    pub reads-some :
        (r : Record) → decode f.tag (take (f.end - f.start) (drop f.start xs)) ≡ Some r → Some (r, f.end) ≡ read_at xs at
    reads-some r q = rw (← reads, q)

-- what the check of `field_at` uses, and what that of `read_at`
pub ruleset field_steps = (within-uncut, past-cut)

pub ruleset read_steps = (cut, misplaced, value-within, reads-none, reads-some)
