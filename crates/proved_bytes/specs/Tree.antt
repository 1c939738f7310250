-- The blocks of a pool as trees, for any number of parts, levels and top blocks: over each byte lies one block that exists and is not divided.
-- The block of level l over byte y is y / size l.
-- Assumes nothing.
use Rattle.std.specs.Prelude.{◌≡◌, ◌⊎◌, ◌≢◌, ◌↔◌, ℕ, zero, suc, ◌+◌, ◌*◌, ◌-◌, ◌/◌, ◌≤◌, ◌<◌}
use Rattle.std.proofs.Common.{sym, ◌∙◌, ap, inl, inr, div-lt_iff_lt-mul, eq-or-lt_of_le, le_of_suc-le-suc, not-suc-le-zero, arith}
use Rattle.std.proofs.Math.Nat.{div-div-eq-div-mul}
use Rattle.std.proofs.Math.Decide.{ℕ_discrete, dec_lt}
use Rattle.std.proofs.Math.Arith.{le-zero}
use Rattle.rules.specs.Numbers.{FREE, DIVIDED, NOEXIST}

-- the laws of the states, by level and block number
pub record Tree (p levels tops : ℕ) (st : ℕ → ℕ → ℕ) : Type 0 where
  -- the top blocks exist, and no others of their level
  pub top : (b : ℕ) → (b < tops) ↔ (st 0 b ≢ NOEXIST)
  -- a part exists where its parent is DIVIDED, and only there
  pub kids : (l c : ℕ) → suc l < levels → (st (suc l) c ≢ NOEXIST) ↔ (st l (c / p) ≡ DIVIDED)
  -- the deepest level has no DIVIDED block
  pub deep : (l b : ℕ) → suc l ≡ levels → st l b ≢ DIVIDED
  -- no parts of one parent are all FREE
  pub buddies : (l b : ℕ) → suc l < levels → ((c : ℕ) → c / p ≡ b → st (suc l) c ≡ FREE) → ⊥

-- a block is as long as its parts together
pub record Sizes (p levels : ℕ) (size : ℕ → ℕ) : Type 0 where
  pub some : (l : ℕ) → l < levels → 0 < size l
  pub parts : (l : ℕ) → suc l < levels → size l ≡ size (suc l) * p

-- a block that exists and is not divided
abbrev pub Undivided : ℕ → Type 0
Undivided state = (state ≢ DIVIDED) × (state ≢ NOEXIST)

-- the level of such a block over byte y
abbrev pub Over : ℕ → (ℕ → ℕ) → (ℕ → ℕ → ℕ) → ℕ → Type 0
Over levels size st y = (l : ℕ) × (l < levels) × Undivided (st l (y / size l))

-- what equals the one differs from the other
pub differ : {n m k : ℕ} → n ≡ m → m ≢ k → n ≢ k
differ e d q = d (sym e ∙ q)

module _ {p levels : ℕ} {size : ℕ → ℕ} (z : Sizes p levels size) where
  -- the block over a byte is the parent of the one of the next level
  pub parent : (l y : ℕ) → suc l < levels → y / size (suc l) / p ≡ y / size l
  parent l y h = div-div-eq-div-mul y (size (suc l)) p ∙ ap (λ (n : ℕ). y / n) (sym (z.parts l h))

  -- two bytes in one block lie in one block at each level above
  pub together : (m k x y : ℕ) → m ≤ k → k < levels → x / size k ≡ y / size k → x / size m ≡ y / size m
  together m zero x y h q e = rw (le-zero h) e
  together m (suc k) x y h q e = go (together m k x y) (eq-or-lt_of_le h)
    where
      go :
          (m ≤ k → k < levels → x / size k ≡ y / size k → x / size m ≡ y / size m) → (m ≡ suc k) ⊎ (m < suc k) →
          x / size m ≡ y / size m
      go up (inl w) = rw w e
      go up (inr w) =
          up (le_of_suc-le-suc w) (omega arith) (sym (parent k x q) ∙ ap (λ (n : ℕ). n / p) e ∙ parent k y q)

module _ {p levels tops : ℕ} {st : ℕ → ℕ → ℕ} {size : ℕ → ℕ} (t : Tree p levels tops st) (z : Sizes p levels size) where
  -- a block that exists lies in DIVIDED blocks only
  pub divided-above :
      (l k y : ℕ) → l < k → k < levels → st k (y / size k) ≢ NOEXIST → st l (y / size l) ≡ DIVIDED
  divided-above l zero y h q e = absurd (not-suc-le-zero h)
  divided-above l (suc k) y h q e = go (divided-above l k y) (eq-or-lt_of_le (le_of_suc-le-suc h))
    where
      here : st k (y / size k) ≡ DIVIDED
      here = rw (← parent z k y q) ((t.kids k (y / size (suc k)) q).0 e)

      go :
          (l < k → k < levels → st k (y / size k) ≢ NOEXIST → st l (y / size l) ≡ DIVIDED) → (l ≡ k) ⊎ (l < k) →
          st l (y / size l) ≡ DIVIDED
      go up (inl w) = rw w here
      go up (inr w) = up w (omega arith) (differ here (omega arith))

  -- a byte in a block that exists lies in one that is not divided too: the depth is what lies below the level
  covered-below : (depth l y : ℕ) → suc (l + depth) ≡ levels → st l (y / size l) ≢ NOEXIST → Over levels size st y
  covered-below zero l y q e = (l, omega arith, (t.deep l (y / size l) (omega arith), e))
  covered-below (suc depth) l y q e =
      go (covered-below depth (suc l) y (omega arith)) (ℕ_discrete (st l (y / size l)) DIVIDED)
    where
      go :
          (st (suc l) (y / size (suc l)) ≢ NOEXIST → Over levels size st y) → Dec (st l (y / size l) ≡ DIVIDED) →
          Over levels size st y
      go down (yes w) = down ((t.kids l (y / size (suc l)) (omega arith)).1 (rw (parent z l y (omega arith)) w))
      go down (no w) = (l, omega arith, (w, e))

  -- over each byte of the pool lies a block that exists and is not divided
  pub covered : (y : ℕ) → 0 < levels → y < tops * size 0 → Over levels size st y
  covered y h k =
      covered-below (levels - 1) 0 y (omega arith) ((t.top (y / size 0)).0 ((div-lt_iff_lt-mul (z.some 0 h)).1 k))

  -- and only one
  pub covered-once :
      (y l m : ℕ) → l < levels → m < levels → Undivided (st l (y / size l)) → Undivided (st m (y / size m)) → l ≡ m
  covered-once y l m h k u v = go (dec_lt l m) (dec_lt m l)
    where
      go : Dec (l < m) → Dec (m < l) → l ≡ m
      go (yes w) x = absurd (u.0 (divided-above l m y w k v.1))
      go (no w) (yes x) = absurd (v.0 (divided-above m l y x h u.1))
      go (no w) (no x) = omega arith
