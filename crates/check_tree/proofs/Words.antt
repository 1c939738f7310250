-- Four parts tested as one word. Where a state has its two lowest bits set, `w & (w >> 1)` has the lowest bit of its cell set, whatever stands
-- in the next cell; of the states NOEXIST alone is so.
-- Assumes nothing.
use mathlib.Core.Path.{◌≡◌, refl, ◌∙◌, ap₂}
use mathlib.Core.Bool.{Bool, true, false, not, ◌&&◌, beq, and_assoc}
use Prim.Native.Nat.{ℕ, zero, suc, ◌+◌, ◌*◌, ◌/◌, ◌%◌, ◌≤◌, ◌<◌}
use native.Mathlib.Omega.{arith}
use lib.Bits.{bit_and, and_block, and_lt, and_mask, and_mod}
use lib.Dec.{eqb}
use borrow.Author.Tests.{eqb-true, eqb-false, eq-eqb, ne_eqb}
use mir.Val.{bool_byte}
use Rattle.rules.specs.Numbers.{FREE, NOEXIST}
use Rattle.check_tree.specs.Words.{word}
use Rattle.check_tree.proofs.Parts.{quarters}

-- two numbers are equal in their last cell and before it
eqb-cell : (x y a b : ℕ) → a < 256 → b < 256 → eqb (x * 256 + a) (y * 256 + b) ≡ (eqb a b && eqb x y)
eqb-cell x y a b h k = go (eqb a b) (eqb x y) refl refl
  where
    go : (p q : Bool) → eqb a b ≡ p → eqb x y ≡ q → eqb (x * 256 + a) (y * 256 + b) ≡ (p && q)
    go true true e f = eq-eqb (x * 256 + a) (y * 256 + b) (omega (arith, eqb-true a b e, eqb-true x y f))
    go true false e f = ne_eqb (x * 256 + a) (y * 256 + b) (λ r. eqb-false x y f (omega arith))
    go false q e f = ne_eqb (x * 256 + a) (y * 256 + b) (λ r. eqb-false a b e (omega arith))

-- words are equal cell by cell
eqb-word :
    (a b c d e f g h : ℕ) → (a < 256) × (b < 256) × (c < 256) → (e < 256) × (f < 256) × (g < 256) →
    eqb (word a b c d) (word e f g h) ≡ (eqb a e && eqb b f && eqb c g && eqb d h)
eqb-word a b c d e f g h k l =
    eqb-cell ((d * 256 + c) * 256 + b) ((h * 256 + g) * 256 + f) a e k.0 l.0
    ∙ rw (eqb-cell (d * 256 + c) (h * 256 + g) b f k.1 l.1, eqb-cell d h c g k.2 l.2) (simp and_assoc)

-- 1 where the two lowest bits are set
abbrev low : ℕ → ℕ
low a = bit_and (a % 2) (a / 2 % 2)

low-last : (a r : ℕ) → r % 2 ≡ a / 2 % 2 → bit_and (bit_and a r) 1 ≡ low a
low-last a r e = and_mask (bit_and a r) 1 ∙ and_mod a r 1 ∙ rw e

low-cell :
    (x m a : ℕ) → a < 256 →
    bit_and (bit_and (x * 256 + a) ((x * 256 + a) / 2)) (m * 256 + 1) ≡ bit_and (bit_and x (x / 2)) m * 256 + low a
low-cell x m a h =
    rw (
      half,
      and_block 8 x (x / 2) a (x % 2 * 128 + a / 2) (omega arith) (omega arith),
      and_block 8 (bit_and x (x / 2)) m (bit_and a (x % 2 * 128 + a / 2)) 1 (and_lt 8 a (x % 2 * 128 + a / 2) (omega arith) (omega arith)) (omega arith),
      low-last a (x % 2 * 128 + a / 2) (omega arith),
    )
  where
    half : (x * 256 + a) / 2 ≡ x / 2 * 256 + (x % 2 * 128 + a / 2)
    half = omega arith

low-state : (a : ℕ) → a ≤ 5 → low a ≡ bool_byte (eqb a NOEXIST)
low-state zero h = refl
low-state (suc zero) h = refl
low-state (suc (suc zero)) h = refl
low-state (suc (suc (suc zero))) h = refl
low-state (suc (suc (suc (suc zero)))) h = refl
low-state (suc (suc (suc (suc (suc zero))))) h = refl
low-state (suc (suc (suc (suc (suc (suc a)))))) h = absurd (omega arith)

-- the cells that are NOEXIST
missing :
    (a b c d : ℕ) → (a ≤ 5) × (b ≤ 5) × (c ≤ 5) × (d ≤ 5) →
    bit_and (bit_and (word a b c d) (word a b c d / 2)) 16843009
    ≡ word (bool_byte (eqb a NOEXIST)) (bool_byte (eqb b NOEXIST)) (bool_byte (eqb c NOEXIST)) (bool_byte (eqb d NOEXIST))
missing a b c d h =
    low-cell ((d * 256 + c) * 256 + b) 65793 a (omega arith)
    ∙ rw (
      low-cell (d * 256 + c) 257 b (omega arith),
      low-cell d 1 c (omega arith),
      low-last d (d / 2) refl,
      low-state a h.0,
      low-state b h.1,
      low-state c h.2,
      low-state d h.3,
    )

-- the same bit in every cell
each : (u : Bool) → bool_byte u * 16843009 ≡ word (bool_byte u) (bool_byte u) (bool_byte u) (bool_byte u)
each true = refl
each false = refl

agrees : (v p : Bool) → eqb (bool_byte p) (bool_byte (not v)) ≡ beq (not p) v
agrees true true = refl
agrees true false = refl
agrees false true = refl
agrees false false = refl

byte : (u : Bool) → bool_byte u < 256
byte true = omega arith
byte false = omega arith

-- the word's two tests are those of the four parts
pub word_kept :
    (v : Bool) (a b c d : ℕ) → (a ≤ 5) × (b ≤ 5) × (c ≤ 5) × (d ≤ 5) →
    (eqb (bit_and (bit_and (word a b c d) (word a b c d / 2)) 16843009) (bool_byte (not v) * 16843009)
    && not (eqb (word a b c d) 16843009))
    ≡ quarters v a b c d
word_kept v a b c d h = ap₂ (λ (x y : Bool). x && not y) exist free
  where
    exist :
        eqb (bit_and (bit_and (word a b c d) (word a b c d / 2)) 16843009) (bool_byte (not v) * 16843009)
        ≡ (beq (not (eqb a NOEXIST)) v
        && beq (not (eqb b NOEXIST)) v
        && beq (not (eqb c NOEXIST)) v
        && beq (not (eqb d NOEXIST)) v)
    exist =
        rw (missing a b c d h, each (not v))
        (eqb-word _ _ _ _ _ _ _ _ (byte (eqb a NOEXIST), byte (eqb b NOEXIST), byte (eqb c NOEXIST)) (byte (not v), byte (not v), byte (not v))
        ∙ simp agrees)

    free : eqb (word a b c d) 16843009 ≡ (eqb a FREE && eqb b FREE && eqb c FREE && eqb d FREE)
    free = eqb-word a b c d 1 1 1 1 (omega arith) (omega arith)
