-- Which bytes are free where a FREE block is taken, a block in hand is split, and one is granted.
-- Assumes nothing.
use Rattle.std.specs.Prelude.{◌≡◌, refl, ◌⊎◌, ◌≢◌, ◌↔◌, List, ℕ, zero, suc, ◌+◌, ◌*◌, ◌/◌, ◌%◌, ◌<◌, length, get_or, set}
use Rattle.std.proofs.Common.{sym, ◌∙◌, ap, inl, inr, mod-lt, add-one, arith, get_or-set_same, get_or-set_other}
use Rattle.std.proofs.Math.Nat.{div-add-mod}
use Rattle.std.proofs.Math.Decide.{ℕ_discrete}
use Rattle.shape.specs.declared.Shape.{Shape}
use Rattle.shape.specs.Limits.{parts}
use Rattle.shape.specs.Blocks.{size, count, place, blocks, bytes}
use Rattle.shape.specs.Laws.{Limits, parts-pos, place-once, place_inside}
use Rattle.shape.specs.Offsets.{over-inside}
use Rattle.rules.specs.Numbers.{FREE, DIVIDED}
use Rattle.rules.specs.Tables.{state_at}
use Rattle.laws.specs.Changes.{part_of}
use Rattle.proved_valid.specs.Splits.{split, split-later}
use Rattle.proved_valid.specs.Family.{Family, family, by-family, family-own, family-part, family-rest}
use Rattle.proved_bytes.specs.Tree.{parent}
use Rattle.proved_bytes.specs.Tables.{sizes_of}
use Rattle.proved_bytes.specs.Bytes.{FreeByte}

-- byte y is free, or lies in block b of level l
abbrev pub FreeOr : Shape → List ℕ → ℕ → ℕ → ℕ → Type 0
FreeOr s states l b y = FreeByte s states y ⊎ (y / size s l ≡ b)

-- one block's state changes to one that is not FREE
module _ (s : Shape) (states : List ℕ) (l b v : ℕ) (m : Limits s) (long : length states ≡ blocks s) (level : l < s.levels)
    (block : b < count s l) (n : v ≢ FREE) where
  -- what is FREE then was FREE
  back : (k a : ℕ) → state_at s (set states (place s l b) v) k a ≡ FREE → state_at s states k a ≡ FREE
  back k a e = go (ℕ_discrete (place s k a) (place s l b))
    where
      go : Dec (place s k a ≡ place s l b) → state_at s states k a ≡ FREE
      go (yes q) =
          absurd
          (n
          (sym (get_or-set_same states (place s l b) v 0 (rw long (place_inside s l b level block)))
          ∙ ap (λ (i : ℕ). get_or (set states (place s l b) v) i 0) (sym q)
          ∙ e))
      go (no q) = sym (get_or-set_other states (place s l b) (place s k a) v 0 q) ∙ e

  -- and what was FREE is so still, or is this block
  on :
      (k a : ℕ) → a < count s k → state_at s states k a ≡ FREE →
      ((k ≡ l) × (a ≡ b)) ⊎ (state_at s (set states (place s l b) v) k a ≡ FREE)
  on k a h e = go (ℕ_discrete (place s k a) (place s l b))
    where
      go : Dec (place s k a ≡ place s l b) → ((k ≡ l) × (a ≡ b)) ⊎ (state_at s (set states (place s l b) v) k a ≡ FREE)
      go (yes q) = inl (place-once s k a l b h block q)
      go (no q) = inr (get_or-set_other states (place s l b) (place s k a) v 0 q ∙ e)

  -- a FREE block is taken: its bytes stop being free
  pub take-bytes :
      state_at s states l b ≡ FREE → (y : ℕ) → y < bytes s →
      FreeByte s states y ↔ FreeOr s (set states (place s l b) v) l b y
  take-bytes was y h = (forth, from)
    where
      forth : FreeByte s states y → FreeOr s (set states (place s l b) v) l b y
      forth (k, q, e) = pick (on k (y / size s k) (over-inside s k y m q h) e)
        where
          pick :
              ((k ≡ l) × (y / size s k ≡ b)) ⊎ (state_at s (set states (place s l b) v) k (y / size s k) ≡ FREE) →
              FreeOr s (set states (place s l b) v) l b y
          pick (inl w) = inr (rw w.0 at w.1)
          pick (inr f) = inl (k, q, f)

      from : FreeOr s (set states (place s l b) v) l b y → FreeByte s states y
      from (inl (k, q, e)) = (k, q, back k (y / size s k) e)
      from (inr w) = (l, level, rw w was)

  -- a block that isn't FREE becomes another that isn't: no byte changes
  pub same_bytes :
      state_at s states l b ≢ FREE → (y : ℕ) → y < bytes s →
      FreeByte s states y ↔ FreeByte s (set states (place s l b) v) y
  same_bytes was y h = (forth, λ (k, q, e). (k, q, back k (y / size s k) e))
    where
      forth : FreeByte s states y → FreeByte s (set states (place s l b) v) y
      forth (k, q, e) = pick (on k (y / size s k) (over-inside s k y m q h) e)
        where
          pick :
              ((k ≡ l) × (y / size s k ≡ b)) ⊎ (state_at s (set states (place s l b) v) k (y / size s k) ≡ FREE) →
              FreeByte s (set states (place s l b) v) y
          pick (inl w) = absurd (was (rw (w.0, rw w.0 at w.1) at e))
          pick (inr f) = (k, q, f)

-- a block in hand is divided, and all its parts but the first become FREE: their bytes are free
module _ (s : Shape) (states : List ℕ) (l b : ℕ) (vs : List ℕ) (m : Limits s) (long : length states ≡ blocks s)
    (level : l + 1 < s.levels) (block : b < count s l) (wide : length vs ≡ parts s)
    (free : (j : ℕ) → j < parts s → (j ≡ 0) ⊎ (get_or vs j 0 ≡ FREE)) (was : state_at s states l b ≢ FREE)
    (none : (j : ℕ) → j < parts s → state_at s states (l + 1) (parts s * b + j) ≢ FREE) where
  kin : Family s states l b vs
  kin = record { long = long; level = level; block = block; wide = wide }

  -- what was FREE lies elsewhere, and is so still
  stays : (k a : ℕ) → a < count s k → state_at s states k a ≡ FREE → state_at s (family s states l b DIVIDED vs) k a ≡ FREE
  stays =
      by-family s l b
      (λ k a. a < count s k → state_at s states k a ≡ FREE → state_at s (family s states l b DIVIDED vs) k a ≡ FREE)
      (λ h e. absurd (was e))
      (λ j i h e. absurd (none j i e))
      (λ k a d h e. family-rest kin DIVIDED k a h d ∙ e)

  -- and what is FREE then was so, or is a part
  came :
      (k a : ℕ) → a < count s k → state_at s (family s states l b DIVIDED vs) k a ≡ FREE →
      (state_at s states k a ≡ FREE) ⊎ ((k ≡ l + 1) × (a / parts s ≡ b))
  came =
      by-family s l b
      (λ k a.
      a < count s k → state_at s (family s states l b DIVIDED vs) k a ≡ FREE →
      (state_at s states k a ≡ FREE) ⊎ ((k ≡ l + 1) × (a / parts s ≡ b)))
      (λ h e. absurd (divided (sym (family-own kin DIVIDED) ∙ e)))
      (λ j i h e. inr (refl, part_of (parts s) b j i))
      (λ k a d h e. inl (sym (family-rest kin DIVIDED k a h d) ∙ e))
    where
      divided : DIVIDED ≡ FREE → ⊥
      divided e = omega arith

  -- the block over a byte is the parent of the one of the next level
  over : (y : ℕ) → y / size s (l + 1) / parts s ≡ y / size s l
  over y = rw (add-one l) (parent (sizes_of s m) l y (rw (← add-one l) level))

  -- a byte of the block lies in the first part, or is free
  parted : (y : ℕ) → y / size s l ≡ b → FreeOr s (family s states l b DIVIDED vs) (l + 1) (parts s * b) y
  parted y w = pick (free (y / size s (l + 1) % parts s) (mod-lt (y / size s (l + 1)) (parts-pos s)))
    where
      is : y / size s (l + 1) ≡ parts s * b + y / size s (l + 1) % parts s
      is =
          sym (div-add-mod (y / size s (l + 1)) (parts s))
          ∙ ap (λ (n : ℕ). parts s * n + y / size s (l + 1) % parts s) (over y ∙ w)

      pick :
          (y / size s (l + 1) % parts s ≡ 0) ⊎ (get_or vs (y / size s (l + 1) % parts s) 0 ≡ FREE) →
          FreeOr s (family s states l b DIVIDED vs) (l + 1) (parts s * b) y
      pick (inl z) = inr (omega (arith, is, z))
      pick (inr f) =
          inl (
            l + 1,
            level,
            ap (state_at s (family s states l b DIVIDED vs) (l + 1)) is
                ∙ family-part kin DIVIDED _ (mod-lt (y / size s (l + 1)) (parts-pos s))
                ∙ f,
          )

  pub split-bytes :
      (y : ℕ) → y < bytes s →
      FreeOr s states l b y ↔ FreeOr s (family s states l b DIVIDED vs) (l + 1) (parts s * b) y
  split-bytes y h = (forth, from)
    where
      forth : FreeOr s states l b y → FreeOr s (family s states l b DIVIDED vs) (l + 1) (parts s * b) y
      forth (inl (k, q, e)) = inl (k, q, stays k (y / size s k) (over-inside s k y m q h) e)
      forth (inr w) = parted y w

      pick :
          (k : ℕ) → k < s.levels →
          (state_at s states k (y / size s k) ≡ FREE) ⊎ ((k ≡ l + 1) × (y / size s k / parts s ≡ b)) → FreeOr s states l b y
      pick k q (inl f) = inl (k, q, f)
      pick k q (inr (w, v)) = inr (sym (over y) ∙ ap (λ (n : ℕ). y / size s n / parts s) (sym w) ∙ v)

      first : parts s * b / parts s ≡ b
      first =
          let e : parts s * b ≡ parts s * b + 0 = omega arith in
          ap (λ (n : ℕ). n / parts s) e ∙ part_of (parts s) b 0 (parts-pos s)

      from : FreeOr s (family s states l b DIVIDED vs) (l + 1) (parts s * b) y → FreeOr s states l b y
      from (inl (k, q, e)) = pick k q (came k (y / size s k) (over-inside s k y m q h) e)
      from (inr w) = inr (sym (over y) ∙ ap (λ (n : ℕ). n / parts s) w ∙ first)

-- where a block is split all its parts but the first become FREE
pub split-part : (s : Shape) (j : ℕ) → j < parts s → (j ≡ 0) ⊎ (get_or (split s) j 0 ≡ FREE)
split-part s zero h = inl refl
split-part s (suc j) h = inr (split-later s j h)
