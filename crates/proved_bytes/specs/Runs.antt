-- Runs of free bytes, for any number of parts, levels and top blocks: a run as long as the blocks of a level, and at a multiple of that length,
-- is free where a FREE block of that level or of one above lies over it, and only there.
-- Assumes nothing.
use Rattle.std.specs.Prelude.{◌≡◌, ◌⊎◌, ◌≢◌, ℕ, suc, ◌*◌, ◌/◌, ◌≤◌, ◌<◌}
use Rattle.std.proofs.Common.{sym, ◌∙◌, ap, inl, inr, div-lt_iff_lt-mul, eq-or-lt_of_le, arith}
use Rattle.rules.specs.Numbers.{FREE, NOEXIST}
use Rattle.proved_bytes.specs.Tree.{Tree, Sizes, differ, together, divided-above}

-- a FREE block of level k or of one above lies over byte y
abbrev pub FreeTo : (ℕ → ℕ) → (ℕ → ℕ → ℕ) → ℕ → ℕ → Type 0
FreeTo size st k y = (l : ℕ) × (l ≤ k) × (st l (y / size l) ≡ FREE)

-- some FREE block lies over byte y
abbrev pub Free : ℕ → (ℕ → ℕ) → (ℕ → ℕ → ℕ) → ℕ → Type 0
Free levels size st y = (l : ℕ) × (l < levels) × (st l (y / size l) ≡ FREE)

-- all bytes of block b of level k are free, whether it exists or not
abbrev pub Run : ℕ → (ℕ → ℕ) → (ℕ → ℕ → ℕ) → ℕ → ℕ → Type 0
Run levels size st k b = (y : ℕ) → y / size k ≡ b → Free levels size st y

module _ {p levels tops : ℕ} {st : ℕ → ℕ → ℕ} {size : ℕ → ℕ} (t : Tree p levels tops st) (z : Sizes p levels size) where
  -- a FREE block lies over all bytes of a block where it lies over one of them
  pub free-over : (k x y : ℕ) → k < levels → x / size k ≡ y / size k → FreeTo size st k y → FreeTo size st k x
  free-over k x y h e (l, w, f) = (l, w, rw (together z l k x y w h e) f)

  -- a run of a deeper level is part of the run around it
  pub run-deeper :
      (k m y : ℕ) → k ≤ m → m < levels → Run levels size st k (y / size k) → Run levels size st m (y / size m)
  run-deeper k m y h q r x e = r x (together z k m x y h q e)

  -- over a FREE block lies no other
  pub alone :
      (k x y : ℕ) → suc k < levels → st (suc k) (y / size (suc k)) ≡ FREE → x / size k ≡ y / size k →
      FreeTo size st k x → ⊥
  alone k x y h e q (l, w, f) =
      omega (
        arith,
        sym f ∙ ap (st l) (together z l k x y w (omega arith) q)
            ∙ divided-above t z l (suc k) y (omega arith) h (differ e (omega arith)),
      )

  -- a free byte is a byte of the pool
  pub free-inside : (y : ℕ) → Free levels size st y → y < tops * size 0
  free-inside y (l, h, e) =
      (div-lt_iff_lt-mul (z.some 0 (omega arith))).0 ((t.top (y / size 0)).1 (exists (eq-or-lt_of_le (omega arith))))
    where
      exists : (0 ≡ l) ⊎ (0 < l) → st 0 (y / size 0) ≢ NOEXIST
      exists (inl w) = differ (rw (← w) at e) (omega arith)
      exists (inr w) = differ (divided-above t z 0 l y w h (differ e (omega arith))) (omega arith)
