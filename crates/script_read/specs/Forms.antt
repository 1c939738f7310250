-- Document 01, 'Script and listing': the tags with the lengths of their values, and the records that they tell.
-- Assumes nothing.
use Rattle.std.specs.Prelude.{Some, None, Option, ◌≡◌, refl, Bool, true, false, cond, ◌&&◌, List, [], ◌∷◌, ℕ, length, eqb}
use Rattle.std.proofs.Common.{arith, eqb-true}
use Rattle.laws.specs.Tests.{both}
use Rattle.rules.specs.declared.script.Record.{Record}
use Rattle.rules.specs.declared.script.Record.TheVariants.{Pool, Ask, ShortAsk, GoOn, Give, Switch, Tick, Whole}
use Rattle.rules.specs.Numbers.{SHAPE-TAG, ASK-TAG, GO-ON-TAG, GIVE-TAG, SWITCH-TAG, TICK-TAG, WHOLE-TAG}
use Rattle.rules.specs.Script.{decode}

-- each tag with each length that its value may have
abbrev pub forms : List (ℕ × ℕ)
forms =
    (SHAPE-TAG, 8) ∷ (ASK-TAG, 9) ∷ (ASK-TAG, 5) ∷ (GO-ON-TAG, 1) ∷ (GIVE-TAG, 5) ∷ (SWITCH-TAG, 1) ∷ (TICK-TAG, 0)
    ∷ (WHOLE-TAG, 0) ∷ []

-- whether a tag and a length stand in a table of such
abbrev pub among : List (ℕ × ℕ) → ℕ → ℕ → Bool
among [] tag n = false
among (f ∷ fs) tag n = cond (eqb tag f.0 && eqb n f.1) true (among fs tag n)

-- whether a tag and a value say a record
abbrev pub is_good : Option Record → Bool
is_good (Some r) = true
is_good None = false

-- the tag of a record, and whether it is a shape
abbrev pub tag_of : Record → ℕ
tag_of (Pool q) = SHAPE-TAG
tag_of (Ask t size m) = ASK-TAG
tag_of (ShortAsk t size) = ASK-TAG
tag_of (GoOn t) = GO-ON-TAG
tag_of (Give t i) = GIVE-TAG
tag_of (Switch t) = SWITCH-TAG
tag_of Tick = TICK-TAG
tag_of Whole = WHOLE-TAG

abbrev pub is_pool : Record → Bool
is_pool r = eqb (tag_of r) SHAPE-TAG

good_more : (b : Bool) (x : Record) (d : Option Record) → is_good (cond b (Some x) d) ≡ cond b true (is_good d)
good_more true x d = refl
good_more false x d = refl

-- good is what has one of the forms
pub decode-good : (tag : ℕ) (value : List ℕ) → is_good (decode tag value) ≡ among forms tag (length value)
unfolding decode
decode-good tag value = simp good_more

-- a good record has the tag that stands there
pub decode-tag : (tag : ℕ) (value : List ℕ) (r : Record) → decode tag value ≡ Some r → tag_of r ≡ tag
unfolding decode
decode-tag tag value r e =
    or SHAPE-TAG 8 _ _ refl
    (or ASK-TAG 9 _ _ refl
    (or ASK-TAG 5 _ _ refl
    (or GO-ON-TAG 1 _ _ refl
    (or GIVE-TAG 5 _ _ refl (or SWITCH-TAG 1 _ _ refl (or TICK-TAG 0 _ _ refl (or WHOLE-TAG 0 _ _ refl none)))))))
    e
  where
    none : None ≡ Some r → tag_of r ≡ tag
    none q = absurd (let z : ◌≡◌ {A = ℕ} 0 1 = cc in omega arith)

    pick :
        (k : ℕ) (x : Record) (d : Option Record) → tag_of x ≡ k → (d ≡ Some r → tag_of r ≡ tag) → (b : Bool) →
        (b ≡ true → tag ≡ k) → cond b (Some x) d ≡ Some r → tag_of r ≡ tag
    pick k x d s later true h q =
        let y : r ≡ x = cc in
        rw y (omega (arith, s, h refl))
    pick k x d s later false h q = later q

    or :
        (k n : ℕ) (x : Record) (d : Option Record) → tag_of x ≡ k → (d ≡ Some r → tag_of r ≡ tag) →
        cond (eqb tag k && eqb (length value) n) (Some x) d ≡ Some r → tag_of r ≡ tag
    or k n x d s later q =
        pick k x d s later (eqb tag k && eqb (length value) n)
        (λ h. eqb-true tag k (both (eqb tag k) (eqb (length value) n) h).0)
        q
