-- Document 01, 'Script and listing': each kind of bad record, and that no other is bad.
-- Assumes nothing.
use Rattle.std.specs.Prelude.{Some, None, Option, ◌≡◌, Bool, cond, ◌&&◌, ◌⊎◌, List, ℕ, ◌+◌, ◌≤◌, ◌<◌, length, eqb}
use Rattle.std.proofs.Math.Path.{refl, ap}
use Rattle.std.proofs.Common.{◌∙◌, true≢false, inl, inr, arith, ne_eqb}
use Rattle.std.proofs.Math.Bool.{true, false}
use Rattle.rules.specs.Numbers.{SHAPE-TAG, WHOLE-TAG}
use Rattle.rules.specs.Script.{decode, tag_at, length_at, value_at, uncut, placed, found, read_at}
use Rattle.script_read.specs.Framing.{uncut-length, past-cut}
use Rattle.script_read.specs.Forms.{forms, among, is_good, decode-good}
use Rattle.rules.specs.declared.script.Record.{Record}

-- whether a record was found
abbrev pub is_record : Option (Record × ℕ) → Bool
is_record (Some (r, next)) = true
is_record None = false

not-record : (x : Option (Record × ℕ)) → is_record x ≡ false → x ≡ None
not-record (Some (r, next)) e = absurd (true≢false e)
not-record None e = refl

found-good : (d : Option Record) (next : ℕ) → is_record (found d next) ≡ is_good d
found-good (Some r) next = refl
found-good None next = refl

-- a tag that is no record's is in no form
no-form : (tag n : ℕ) → (tag < SHAPE-TAG) ⊎ (WHOLE-TAG < tag) → among forms tag n ≡ false
no-form tag n h =
    rw (
      other 1 (omega arith),
      other 2 (omega arith),
      other 3 (omega arith),
      other 4 (omega arith),
      other 5 (omega arith),
      other 6 (omega arith),
      other 7 (omega arith),
    )
  where
    outside : (k : ℕ) → (SHAPE-TAG ≤ k) × (k ≤ WHOLE-TAG) → (tag < SHAPE-TAG) ⊎ (WHOLE-TAG < tag) → tag ≡ k → ⊥
    outside k w (inl low) e = omega arith
    outside k w (inr high) e = omega arith

    other : (k : ℕ) → (SHAPE-TAG ≤ k) × (k ≤ WHOLE-TAG) → eqb tag k ≡ false
    other k w = ne_eqb tag k (outside k w h)

and-false : (b : Bool) → (b && false) ≡ false
and-false true = refl
and-false false = refl

module _ (xs : List ℕ) (at : ℕ) where
  -- a record is found where it is uncut and in its place, and its tag and length are a form
  pub readable :
      is_record (read_at xs at) ≡ ((uncut xs at && placed xs at) && among forms (tag_at xs at) (length_at xs at))
  unfolding read_at
  readable = pick (uncut xs at) refl (placed xs at)
    where
      pick :
          (u : Bool) → uncut xs at ≡ u → (p : Bool) →
          is_record (cond (u && p) (found (decode (tag_at xs at) (value_at xs at)) (at + 3 + length_at xs at)) None)
          ≡ ((u && p) && among forms (tag_at xs at) (length_at xs at))
      pick false e p = refl
      pick true e false = refl
      pick true e true =
          found-good (decode (tag_at xs at) (value_at xs at)) (at + 3 + length_at xs at)
          ∙ decode-good (tag_at xs at) (value_at xs at)
          ∙ ap (among forms (tag_at xs at)) (uncut-length xs at e)

  bad : ((uncut xs at && placed xs at) && among forms (tag_at xs at) (length_at xs at)) ≡ false → read_at xs at ≡ None
  bad e = not-record (read_at xs at) (readable ∙ e)

  -- a cut record: in its value, or before that
  pub cut-in-value : length xs < at + 3 + length_at xs at → read_at xs at ≡ None
  cut-in-value h = bad (rw (past-cut xs at h))

  pub cut-in-length : length xs < at + 3 → read_at xs at ≡ None
  cut-in-length h = cut-in-value (omega arith)

  -- a record out of its place
  misplaced : placed xs at ≡ false → read_at xs at ≡ None
  misplaced e = bad (rw (e, and-false (uncut xs at)))

  -- other lengths
  pub other_length : among forms (tag_at xs at) (length_at xs at) ≡ false → read_at xs at ≡ None
  other_length e = bad (ap (λ (b : Bool). (uncut xs at && placed xs at) && b) e ∙ and-false (uncut xs at && placed xs at))

  -- other tags
  pub other_tag : (tag_at xs at < SHAPE-TAG) ⊎ (WHOLE-TAG < tag_at xs at) → read_at xs at ≡ None
  other_tag h = other_length (no-form (tag_at xs at) (length_at xs at) h)

  -- tag 1 once more
  pub shape-later : 0 < at → tag_at xs at ≡ SHAPE-TAG → read_at xs at ≡ None
  unfolding placed
  shape-later h e = misplaced (rw (ne_eqb at 0 (λ z. omega arith), e))

-- another tag in the first record
pub other-first : (xs : List ℕ) → (tag_at xs 0 ≡ SHAPE-TAG → ⊥) → read_at xs 0 ≡ None
unfolding placed
other-first xs h = misplaced xs 0 (ne_eqb (tag_at xs 0) SHAPE-TAG h)
