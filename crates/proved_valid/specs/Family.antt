-- A block and its parts change state, and no other block: what the lines on states say afterwards.
-- Assumes nothing.
use Rattle.std.specs.Prelude.{◌≡◌, Bool, List, ℕ, ◌+◌, ◌*◌, ◌/◌, ◌%◌, ◌<◌, length, get_or, set}
use Rattle.std.proofs.Common.{sym, ◌∙◌, ap, subst, mod-lt, arith, length-set, get_or-set_same, get_or-set_other}
use Rattle.std.proofs.Math.Nat.{div-add-mod}
use Rattle.std.proofs.Math.Decide.{ℕ_discrete}
use Rattle.std.proofs.lemmas.List.Edits.{sets}
use Rattle.std.proofs.Math.Seq.{length-sets}
use Rattle.laws.specs.Keep.{get_or-sets, get_or-sets-other}
use Rattle.shape.specs.declared.Shape.{Shape}
use Rattle.shape.specs.Limits.{parts}
use Rattle.shape.specs.Blocks.{count, place, blocks}
use Rattle.shape.specs.Laws.{parts-pos, place-once, place_inside}
use Rattle.shape.specs.Sections.{levels-apart, part-inside, parts-placed}
use Rattle.rules.specs.Tables.{state_at}
use Rattle.laws.specs.Changes.{part_of, set-test, sets-test}
use Rattle.proved_valid.specs.States.{Alike}

-- block a of level m is neither block b of level l nor a part of it
abbrev pub Elsewhere : Shape → ℕ → ℕ → ℕ → ℕ → Type 0
Elsewhere s l b m a = (m ≡ l → a ≡ b → ⊥) × (m ≡ l + 1 → a / parts s ≡ b → ⊥)

-- block b of level l gets the state own, and its parts the states vs
abbrev pub family : Shape → List ℕ → ℕ → ℕ → ℕ → List ℕ → List ℕ
family s states l b own vs = sets (set states (place s l b) own) (place s (l + 1) (parts s * b)) vs

and-also : {A B : Type 0} → Dec A → Dec B → Dec (A × B)
and-also (yes a) (yes b) = yes (a, b)
and-also (yes a) (no b) = no (λ w. b w.1)
and-also (no a) b = no (λ w. a w.0)

-- a block is this one, or a part of it, or elsewhere
pub by-family :
    (s : Shape) (l b : ℕ) (P : ℕ → ℕ → Type 0) → P l b → ((j : ℕ) → j < parts s → P (l + 1) (parts s * b + j)) →
    ((m a : ℕ) → Elsewhere s l b m a → P m a) → (m a : ℕ) → P m a
by-family s l b P own part rest m a =
    go (and-also (ℕ_discrete m l) (ℕ_discrete a b)) (and-also (ℕ_discrete m (l + 1)) (ℕ_discrete (a / parts s) b))
  where
    mine : a / parts s ≡ b → a ≡ parts s * b + a % parts s
    mine y = sym (div-add-mod a (parts s)) ∙ ap (λ (n : ℕ). parts s * n + a % parts s) y

    go : Dec ((m ≡ l) × (a ≡ b)) → Dec ((m ≡ l + 1) × (a / parts s ≡ b)) → P m a
    go (yes p) q = subst (λ (n : ℕ). P n a) (sym p.0) (subst (λ (n : ℕ). P l n) (sym p.1) own)
    go (no p) (yes q) =
        subst (λ (n : ℕ). P n a) (sym q.0)
        (subst (λ (n : ℕ). P (l + 1) n) (sym (mine q.1)) (part (a % parts s) (mod-lt a (parts-pos s))))
    go (no p) (no q) = rest m a (λ u v. p (u, v), λ u v. q (u, v))

-- block b of level l has parts, and there is a state for each
pub record Family (s : Shape) (states : List ℕ) (l b : ℕ) (vs : List ℕ) : Type 0 where
  pub long : length states ≡ blocks s
  pub level : l + 1 < s.levels
  pub block : b < count s l
  pub wide : length vs ≡ parts s

module _ {s : Shape} {states : List ℕ} {l b : ℕ} {vs : List ℕ} (f : Family s states l b vs) (own : ℕ) where
  -- the parts stand behind the block
  behind : (j : ℕ) → place s l b < place s (l + 1) (parts s * b) + j
  behind j = omega (arith, f.block, levels-apart s l (l + 1) (omega arith))

  part-place : (j : ℕ) → place s (l + 1) (parts s * b + j) ≡ place s (l + 1) (parts s * b) + j
  part-place j = omega arith

  pub family-long : length (family s states l b own vs) ≡ blocks s
  family-long =
      length-sets (set states (place s l b) own) (place s (l + 1) (parts s * b)) vs
      ∙ length-set states (place s l b) own
      ∙ f.long

  pub family-own : state_at s (family s states l b own vs) l b ≡ own
  family-own =
      get_or-sets-other (set states (place s l b) own) vs (place s (l + 1) (parts s * b)) (place s l b) 0
      (λ j h. omega (arith, behind j))
      ∙ get_or-set_same states (place s l b) own 0 (rw f.long (place_inside s l b (omega (arith, f.level)) f.block))

  pub family-part :
      (j : ℕ) → j < parts s → state_at s (family s states l b own vs) (l + 1) (parts s * b + j) ≡ get_or vs j 0
  family-part j h =
      ap (λ (n : ℕ). get_or (family s states l b own vs) n 0) (part-place j)
      ∙ get_or-sets (set states (place s l b) own) vs (place s (l + 1) (parts s * b)) j 0 (rw f.wide h)
      (rw (f.wide, length-set states (place s l b) own, f.long) (parts-placed s l b f.level f.block))

  pub family-rest :
      (m a : ℕ) → a < count s m → Elsewhere s l b m a → state_at s (family s states l b own vs) m a ≡ state_at s states m a
  family-rest m a h d =
      get_or-sets-other (set states (place s l b) own) vs (place s (l + 1) (parts s * b)) (place s m a) 0 none
      ∙ get_or-set_other states (place s l b) (place s m a) own 0
      (λ q. let w = place-once s m a l b h f.block q in d.0 w.0 w.1)
    where
      none : (j : ℕ) → j < length vs → place s m a ≡ place s (l + 1) (parts s * b) + j → ⊥
      none j k q =
          let i : j < parts s = omega (arith, f.wide) in
          let w = place-once s m a (l + 1) (parts s * b + j) h (part-inside s l b j f.block i) (q ∙ sym (part-place j)) in
          d.1 w.0 (ap (λ (n : ℕ). n / parts s) w.1 ∙ part_of (parts s) b j i)

  -- a test that doesn't tell the states of the block and of its parts from those before
  pub family-alike :
      (τ : ℕ → Bool) → τ own ≡ τ (state_at s states l b) →
      ((j : ℕ) → j < parts s → τ (get_or vs j 0) ≡ τ (state_at s states (l + 1) (parts s * b + j))) →
      Alike τ states (family s states l b own vs)
  family-alike τ e k i =
      sets-test τ (set states (place s l b) own) vs (place s (l + 1) (parts s * b)) at i
      ∙ set-test τ states (place s l b) own e i
    where
      at :
          (j : ℕ) → j < length vs →
          τ (get_or vs j 0) ≡ τ (get_or (set states (place s l b) own) (place s (l + 1) (parts s * b) + j) 0)
      at j h =
          k j (omega (arith, f.wide))
          ∙ ap (λ (n : ℕ). τ (get_or states n 0)) (part-place j)
          ∙ ap τ
          (sym (get_or-set_other states (place s l b) (place s (l + 1) (parts s * b) + j) own 0 (omega (arith, behind j))))
