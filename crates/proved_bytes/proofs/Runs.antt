-- A run of a level's length is free where a FREE block of that level or of one above lies over it, and only there.
-- Assumes nothing.
use Rattle.std.specs.Prelude.{◌≡◌, refl, ◌⊎◌, ◌↔◌, ℕ, zero, suc, ◌+◌, ◌*◌, ◌-◌, ◌/◌, ◌<◌}
use Rattle.std.proofs.Common.{sym, ◌∙◌, ap, inl, inr, mul-div_cancel, eq-or-lt_of_le, le_of_suc-le-suc, arith}
use Rattle.rules.specs.Numbers.{FREE}
use Rattle.proved_bytes.specs.Tree.{Tree, Sizes, parent}
use Rattle.proved_bytes.specs.Runs.{FreeTo, Run, free-over, run-deeper, alone}

module _ {p levels tops : ℕ} {st : ℕ → ℕ → ℕ} {size : ℕ → ℕ} (t : Tree p levels tops st) (z : Sizes p levels size) where
  -- it lies at this level, or above
  here-or-above : (k y : ℕ) → FreeTo size st (suc k) y → (st (suc k) (y / size (suc k)) ≡ FREE) ⊎ FreeTo size st k y
  here-or-above k y (l, h, e) = go (eq-or-lt_of_le h)
    where
      go : (l ≡ suc k) ⊎ (l < suc k) → (st (suc k) (y / size (suc k)) ≡ FREE) ⊎ FreeTo size st k y
      go (inl w) = inl (rw w at e)
      go (inr w) = inr (l, le_of_suc-le-suc w, e)

  -- so where one part of a block is FREE and a FREE block lies over each part, all its parts are FREE; but buddies never are
  parts-merged :
      (k y : ℕ) → suc k < levels → st (suc k) (y / size (suc k)) ≡ FREE →
      ((x : ℕ) → x / size k ≡ y / size k → FreeTo size st (suc k) x) → ⊥
  parts-merged k y h e f = t.buddies k (y / size k) h (λ c q. part c q (first c))
    where
      first : (c : ℕ) → c * size (suc k) / size (suc k) ≡ c
      first c = mul-div_cancel c (z.some (suc k) h)

      part : (c : ℕ) → c / p ≡ y / size k → c * size (suc k) / size (suc k) ≡ c → st (suc k) c ≡ FREE
      part c q w = go (here-or-above k x (f x beside))
        where
          x : ℕ
          x = c * size (suc k)

          beside : x / size k ≡ y / size k
          beside = sym (parent z k x h) ∙ ap (λ (n : ℕ). n / p) w ∙ q

          go : (st (suc k) (x / size (suc k)) ≡ FREE) ⊎ FreeTo size st k x → st (suc k) c ≡ FREE
          go (inl g) = rw w at g
          go (inr g) = absurd (alone t z k x y h e beside g)

  -- a free run of a level's length lies in a FREE block of that level or of one above: the depth is what lies below the level
  run-over : (depth k y : ℕ) → suc (k + depth) ≡ levels → Run levels size st k (y / size k) → FreeTo size st k y
  run-over zero k y q r = ((r y refl).0, omega (arith, (r y refl).1), (r y refl).2)
  run-over (suc depth) k y q r =
      go (λ x e. run-over depth (suc k) x (omega arith) (run-deeper t z k (suc k) x (omega arith) (omega arith) (rw e r)))
    where
      pick :
          ((x : ℕ) → x / size k ≡ y / size k → FreeTo size st (suc k) x) →
          (st (suc k) (y / size (suc k)) ≡ FREE) ⊎ FreeTo size st k y → FreeTo size st k y
      pick deeper (inl w) = absurd (parts-merged k y (omega arith) w deeper)
      pick deeper (inr w) = w

      go : ((x : ℕ) → x / size k ≡ y / size k → FreeTo size st (suc k) x) → FreeTo size st k y
      go deeper = pick deeper (here-or-above k y (deeper y refl))

  -- an aligned run of a level's length is free where a FREE block of that level or of one above lies over it, and only there
  pub free-run : (k y : ℕ) → k < levels → Run levels size st k (y / size k) ↔ FreeTo size st k y
  free-run k y h = (run-over (levels - suc k) k y (omega arith), over)
    where
      over : FreeTo size st k y → Run levels size st k (y / size k)
      over f x e =
          let (l, w, g) = free-over t z k x y h e f in
          (l, omega arith, g)

  -- the same of a block's number: block b of level k starts at b * size k
  pub free-block : (k b : ℕ) → k < levels → Run levels size st k b ↔ FreeTo size st k (b * size k)
  free-block k b h = rw (mul-div_cancel b (z.some k h)) at (free-run k (b * size k) h)
