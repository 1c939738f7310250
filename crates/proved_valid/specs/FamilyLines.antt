-- A block and its parts change state: the tree's lines, and blocks in hand.
-- Assumes nothing.
use Rattle.std.specs.Prelude.{◌≡◌, refl, Bool, true, List, ℕ, ◌+◌, ◌*◌, ◌-◌, ◌/◌, ◌<◌, get_or}
use Rattle.std.proofs.Common.{sym, ◌∙◌, arith}
use Rattle.std.proofs.Math.Path.{ap}
use Rattle.std.proofs.Math.Bool.{false, not}
use Rattle.std.proofs.Math.Dec.{eqb}
use borrow.Author.Tests.{not-true}
use Rattle.laws.specs.Tests.{every, every-at, every_of, every-same}
use Rattle.shape.specs.declared.Shape.{Shape}
use Rattle.shape.specs.Limits.{parts}
use Rattle.shape.specs.Blocks.{count}
use Rattle.shape.specs.Laws.{count-top}
use Rattle.shape.specs.Sections.{part-inside}
use Rattle.rules.specs.Numbers.{FREE, DIVIDED, NOEXIST}
use Rattle.rules.specs.Tables.{state_at}
use Rattle.rules.specs.Valid.{tops_exist, parts_exist, deepest_whole, buddies_merged}
use Rattle.facts.specs.Stage.{alike}
use Rattle.laws.specs.Changes.{beq-of, part_of}
use Rattle.proved_valid.specs.Family.{Family, by-family, family, family-own, family-part, family-rest}

module _ {s : Shape} {states : List ℕ} {l b : ℕ} {vs : List ℕ} (f : Family s states l b vs) (own : ℕ) where
  -- a test tells no block but this one, or none but its parts, from what it was
  pub but-own :
      (τ : ℕ → Bool) → ((j : ℕ) → j < parts s → τ (get_or vs j 0) ≡ τ (state_at s states (l + 1) (parts s * b + j))) →
      (m a : ℕ) → a < count s m → (m ≡ l → a ≡ b → ⊥) →
      τ (state_at s (family s states l b own vs) m a) ≡ τ (state_at s states m a)
  but-own τ k =
      by-family s l b
      (λ m a.
      a < count s m → (m ≡ l → a ≡ b → ⊥) → τ (state_at s (family s states l b own vs) m a) ≡ τ (state_at s states m a))
      (λ h n. absurd (n refl refl))
      (λ j i h n. ap τ (family-part f own j i) ∙ k j i)
      (λ m a d h n. ap τ (family-rest f own m a h d))

  pub but-parts :
      (τ : ℕ → Bool) → τ own ≡ τ (state_at s states l b) → (m a : ℕ) → a < count s m → (m ≡ l + 1 → a / parts s ≡ b → ⊥) →
      τ (state_at s (family s states l b own vs) m a) ≡ τ (state_at s states m a)
  but-parts τ e =
      by-family s l b
      (λ m a.
      a < count s m → (m ≡ l + 1 → a / parts s ≡ b → ⊥) →
      τ (state_at s (family s states l b own vs) m a) ≡ τ (state_at s states m a))
      (λ h n. ap τ (family-own f own) ∙ e)
      (λ j i h n. absurd (n refl (part_of (parts s) b j i)))
      (λ m a d h n. ap τ (family-rest f own m a h d))

  pub tops-family :
      eqb own NOEXIST ≡ eqb (state_at s states l b) NOEXIST → tops_exist s states ≡ true →
      tops_exist s (family s states l b own vs) ≡ true
  unfolding tops_exist
  tops-family e k =
      every-same s.tops _ _
      (λ a h. ap not (but-parts (λ x. eqb x NOEXIST) e 0 a (rw (count-top s) h) (λ n q. omega arith)))
      ∙ k

  pub deepest-family :
      ((j : ℕ) → j < parts s → eqb (get_or vs j 0) DIVIDED ≡ eqb (state_at s states (l + 1) (parts s * b + j)) DIVIDED) →
      deepest_whole s states ≡ true → deepest_whole s (family s states l b own vs) ≡ true
  unfolding deepest_whole
  deepest-family u k =
      every-same (count s (s.levels - 1)) _ _
      (λ a h. ap not (but-own (λ x. eqb x DIVIDED) u (s.levels - 1) a h (λ n q. omega arith)))
      ∙ k

  -- the parts exist where the block is DIVIDED, and else not
  pub parts-family :
      eqb own NOEXIST ≡ eqb (state_at s states l b) NOEXIST →
      ((j : ℕ) → j < parts s → eqb (get_or vs j 0) DIVIDED ≡ eqb (state_at s states (l + 1) (parts s * b + j)) DIVIDED) →
      ((j : ℕ) → j < parts s → not (eqb (get_or vs j 0) NOEXIST) ≡ eqb own DIVIDED) → parts_exist s states ≡ true →
      parts_exist s (family s states l b own vs) ≡ true
  unfolding parts_exist
  parts-family e u n k =
      every_of (s.levels - 1) _ (λ m i.
      every_of (count s m) _ (λ a h.
      every_of (parts s) _ (λ j d. beq-of _ _ (at m a h i j d))))
    where
      was :
          (m a : ℕ) → a < count s m → m < s.levels - 1 → (j : ℕ) → j < parts s →
          not (eqb (state_at s states (m + 1) (parts s * a + j)) NOEXIST) ≡ eqb (state_at s states m a) DIVIDED
      was m a h i j d =
          alike _ _ (every-at (parts s) _ (every-at (count s m) _ (every-at (s.levels - 1) _ k m i) a h) j d)

      other :
          (m a : ℕ) → (m ≡ l → a ≡ b → ⊥) → a < count s m → m < s.levels - 1 → (j : ℕ) → j < parts s →
          not (eqb (state_at s (family s states l b own vs) (m + 1) (parts s * a + j)) NOEXIST)
          ≡ eqb (state_at s (family s states l b own vs) m a) DIVIDED
      other m a q h i j d =
          ap not
          (but-parts (λ x. eqb x NOEXIST) e (m + 1) (parts s * a + j) (part-inside s m a j h d)
          (λ u v. q (omega arith) (sym (part_of (parts s) a j d) ∙ v)))
          ∙ was m a h i j d
          ∙ sym (but-own (λ x. eqb x DIVIDED) u m a h q)

      at :
          (m a : ℕ) → a < count s m → m < s.levels - 1 → (j : ℕ) → j < parts s →
          not (eqb (state_at s (family s states l b own vs) (m + 1) (parts s * a + j)) NOEXIST)
          ≡ eqb (state_at s (family s states l b own vs) m a) DIVIDED
      at =
          by-family s l b _
          (λ h i j d.
          ap (λ (x : ℕ). not (eqb x NOEXIST)) (family-part f own j d)
          ∙ n j d
          ∙ ap (λ (x : ℕ). eqb x DIVIDED) (sym (family-own f own)))
          (λ j d. other (l + 1) (parts s * b + j) (λ u v. omega arith))
          (λ m a d. other m a d.0)

  -- the parts aren't all FREE, and the block is FREE where it was
  pub merged-family :
      eqb own FREE ≡ eqb (state_at s states l b) FREE → every (parts s) (λ j. eqb (get_or vs j 0) FREE) ≡ false →
      buddies_merged s states ≡ true → buddies_merged s (family s states l b own vs) ≡ true
  unfolding buddies_merged
  merged-family e n k = every_of (s.levels - 1) _ (λ m i. every_of (count s m) _ (λ a h. ap not (at m a h i)))
    where
      other :
          (m a : ℕ) → (m ≡ l → a ≡ b → ⊥) → a < count s m → m < s.levels - 1 →
          every (parts s) (λ j. eqb (state_at s (family s states l b own vs) (m + 1) (parts s * a + j)) FREE) ≡ false
      other m a q h i =
          every-same (parts s) _ _
          (λ j d.
          but-parts (λ x. eqb x FREE) e (m + 1) (parts s * a + j) (part-inside s m a j h d)
          (λ u v. q (omega arith) (sym (part_of (parts s) a j d) ∙ v)))
          ∙ not-true _ (every-at (count s m) _ (every-at (s.levels - 1) _ k m i) a h)

      at :
          (m a : ℕ) → a < count s m → m < s.levels - 1 →
          every (parts s) (λ j. eqb (state_at s (family s states l b own vs) (m + 1) (parts s * a + j)) FREE) ≡ false
      at =
          by-family s l b _
          (λ h i. every-same (parts s) _ _ (λ j d. ap (λ (x : ℕ). eqb x FREE) (family-part f own j d)) ∙ n)
          (λ j d. other (l + 1) (parts s * b + j) (λ u v. omega arith))
          (λ m a d. other m a d.0)
