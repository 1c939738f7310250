-- The blocks of valid tables have the laws of Tree, and the sizes of an allowed shape those of Sizes.
-- Assumes nothing.
use Rattle.std.specs.Prelude.{◌≡◌, Bool, not, cond, ◌≢◌, ◌↔◌, List, ℕ, suc, ◌+◌, ◌*◌, ◌-◌, ◌/◌, ◌%◌, ◌^◌, ◌≤◌, ◌<◌, ltb}
use Rattle.std.proofs.Math.Path.{refl}
use Rattle.std.proofs.Common.{sym, ◌∙◌, ap, pow-suc, mul-div_cancel, mod-lt, div-lt_iff_lt-mul, mul_comm, add-one, arith}
use Rattle.std.proofs.Math.Bool.{true, false, beq, true≢false}
use Rattle.std.proofs.lemmas.Bool.{false≢true}
use Rattle.std.proofs.Math.Nat.{one-le-pow, div-add-mod, mul-add-div, div-eq_of_lt}
use Rattle.std.proofs.Math.Decide.{dec_lt}
use Rattle.std.proofs.Math.Dec.{eqb}
use borrow.Author.Tests.{eqb-true, eqb-false, eq-eqb, lt-ltb, le-ltb, not-true}
use Rattle.laws.specs.Tests.{every-at, every_of}
use Rattle.shape.specs.declared.Shape.{Shape}
use Rattle.shape.specs.Limits.{parts}
use Rattle.shape.specs.Blocks.{size, count}
use Rattle.shape.specs.Laws.{Limits, parts-pos, count_next, count-top}
use Rattle.shape.specs.Offsets.{size-fills, size-some}
use Rattle.rules.specs.Numbers.{FREE, DIVIDED, NOEXIST}
use Rattle.rules.specs.Tables.{State, state_at}
use Rattle.rules.specs.Valid.{tops_exist, parts_exist, deepest_whole, buddies_merged}
use Rattle.facts.specs.Lines.{ValidFacts}
use Rattle.proved_bytes.specs.Tree.{Tree, Sizes, differ}

-- the state of block b of level l; a block outside the shape does not exist
unfoldable pub state_in : Shape → List ℕ → ℕ → ℕ → ℕ
state_in s states l b = cond (ltb b (count s l)) (state_at s states l b) NOEXIST

-- in the shape it is what stands in the tables
pub state-inside : (s : Shape) (states : List ℕ) (l b : ℕ) → b < count s l → state_in s states l b ≡ state_at s states l b
unfolding state_in
state-inside s states l b h = rw (lt-ltb b (count s l) h)

pub state-outside : (s : Shape) (states : List ℕ) (l b : ℕ) → count s l ≤ b → state_in s states l b ≡ NOEXIST
unfolding state_in
state-outside s states l b h = rw (le-ltb b (count s l) h)

pub exists-inside : (s : Shape) (states : List ℕ) (l b : ℕ) → state_in s states l b ≢ NOEXIST → b < count s l
exists-inside s states l b e = go (dec_lt b (count s l))
  where
    go : Dec (b < count s l) → b < count s l
    go (yes h) = h
    go (no h) = absurd (e (state-outside s states l b (omega arith)))

-- so a block in any other state is one of the shape, and has that state in the tables
pub state-known :
    (s : Shape) (states : List ℕ) (l b : ℕ) {v : ℕ} → v ≢ NOEXIST → state_in s states l b ≡ v →
    (b < count s l) × (state_at s states l b ≡ v)
state-known s states l b n e =
    let h = exists-inside s states l b (differ e n) in
    (h, sym (state-inside s states l b h) ∙ e)

-- a block is as long as its parts together
pub sizes_of : (s : Shape) → Limits s → Sizes (parts s) s.levels (size s)
sizes_of s h =
    record {
      some = λ l k. size-some s l h k;
      parts =
          λ l k.
          sym (mul-div_cancel (size s l) (some l))
          ∙ ap (λ (n : ℕ). n / parts s ^ l) (longer l k)
          ∙ mul-div_cancel _ (some l);
    }
  where
    some : (l : ℕ) → 0 < parts s ^ l
    some l = one-le-pow l (parts s) (parts-pos s)

    longer : (l : ℕ) → suc l < s.levels → size s l * parts s ^ l ≡ size s (suc l) * parts s * parts s ^ l
    longer l k = size-fills s l h (omega arith) ∙ sym (size-fills s (suc l) h k) ∙ rw pow-suc (omega arith)

-- a part is one of the shape's blocks where its parent is
parent-inside : (s : Shape) (l c : ℕ) → (c / parts s < count s l) ↔ (c < count s (suc l))
parent-inside s l c = rw (← add-one l, count_next, mul_comm) (div-lt_iff_lt-mul (parts-pos s))

module _ (s : Shape) (states : List ℕ) where
  kids_of :
      parts_exist s states ≡ true → (l c : ℕ) → suc l < s.levels →
      (state_in s states (suc l) c ≢ NOEXIST) ↔ (state_in s states l (c / parts s) ≡ DIVIDED)
  unfolding parts_exist
  kids_of e l c h = go (dec_lt c (count s (suc l)))
    where
      agree : (a b : ℕ) → beq (not (eqb a NOEXIST)) (eqb b DIVIDED) ≡ true → (a ≢ NOEXIST) ↔ (b ≡ DIVIDED)
      agree a b = pick (eqb a NOEXIST) (eqb b DIVIDED) refl refl
        where
          pick :
              (x y : Bool) → eqb a NOEXIST ≡ x → eqb b DIVIDED ≡ y → beq (not x) y ≡ true →
              (a ≢ NOEXIST) ↔ (b ≡ DIVIDED)
          pick true true p q w = absurd (false≢true w)
          pick true false p q w = (λ n. absurd (n (eqb-true _ _ p)), λ d. absurd (eqb-false _ _ q d))
          pick false true p q w = (λ n. eqb-true _ _ q, λ d. eqb-false _ _ p)
          pick false false p q w = absurd (false≢true w)

      go :
          Dec (c < count s (suc l)) →
          (state_in s states (suc l) c ≢ NOEXIST) ↔ (state_in s states l (c / parts s) ≡ DIVIDED)
      go (yes w) =
          let k = (parent-inside s l c).1 w in
          rw (state-inside s states (suc l) c w, state-inside s states l (c / parts s) k)
          (agree _ _
          (rw (add-one l, div-add-mod c (parts s)) at
          (every-at (parts s) _
          (every-at (count s l) _ (every-at (s.levels - 1) _ e l (omega arith)) (c / parts s) k)
          (c % parts s)
          (mod-lt c (parts-pos s)))))
      go (no w) = (
        λ n. absurd (w (exists-inside s states (suc l) c n)),
        λ d. absurd (w ((parent-inside s l c).0 (state-known s states l (c / parts s) (omega arith) d).0)),
      )

  buddies_of :
      buddies_merged s states ≡ true → (l b : ℕ) → suc l < s.levels →
      ((c : ℕ) → c / parts s ≡ b → state_in s states (suc l) c ≡ FREE) → ⊥
  unfolding buddies_merged
  buddies_of e l b h f =
      true≢false
      (sym (every_of (parts s) (λ j. eqb (state_at s states (l + 1) (parts s * b + j)) FREE) (λ j k. eq-eqb _ _ (free j k)))
      ∙ not-true _ (every-at (count s l) _ (every-at (s.levels - 1) _ e l (omega arith)) b inside))
    where
      part : (j : ℕ) → j < parts s → (parts s * b + j) / parts s ≡ b
      part j k = mul-add-div (parts-pos s) b j ∙ rw (div-eq_of_lt k) (omega arith)

      known : (j : ℕ) → j < parts s →
          (parts s * b + j < count s (suc l)) × (state_at s states (suc l) (parts s * b + j) ≡ FREE)
      known j k = state-known s states (suc l) (parts s * b + j) (omega arith) (f (parts s * b + j) (part j k))

      free : (j : ℕ) → j < parts s → state_at s states (l + 1) (parts s * b + j) ≡ FREE
      free j k = rw (add-one l) (known j k).1

      inside : b < count s l
      inside = rw (part 0 (parts-pos s)) at ((parent-inside s l (parts s * b + 0)).1 (known 0 (parts-pos s)).0)

  tops_of : tops_exist s states ≡ true → (b : ℕ) → (b < s.tops) ↔ (state_in s states 0 b ≢ NOEXIST)
  unfolding tops_exist
  tops_of e b = (λ h. there h (rw (count-top s) h), λ n. rw (count-top s) at (exists-inside s states 0 b n))
    where
      there : b < s.tops → b < count s 0 → state_in s states 0 b ≢ NOEXIST
      there h k = rw (state-inside s states 0 b k) (eqb-false _ _ (not-true _ (every-at s.tops _ e b h)))

  deep_of : deepest_whole s states ≡ true → (l b : ℕ) → suc l ≡ s.levels → state_in s states l b ≢ DIVIDED
  unfolding deepest_whole
  deep_of e l b h d = eqb-false _ _ (not-true _ (every-at _ _ (rw deepest at e) b known.0)) known.1
    where
      known : (b < count s l) × (state_at s states l b ≡ DIVIDED)
      known = state-known s states l b (omega arith) d

      deepest : s.levels - 1 ≡ l
      deepest = omega arith

-- valid tables are trees
pub tree_of : (s : Shape) (T : State) → ValidFacts s T → Tree (parts s) s.levels s.tops (state_in s T.pool.states)
tree_of s T v =
    record {
      top = tops_of s T.pool.states v.pool.tops_exist;
      kids = kids_of s T.pool.states v.pool.parts_exist;
      deep = deep_of s T.pool.states v.pool.deepest_whole;
      buddies = buddies_of s T.pool.states v.pool.buddies_merged;
    }
