-- Which block of a level lies over a byte of the pool: a level's blocks fill the pool, so there is one.
-- Assumes nothing.
use Rattle.std.specs.Prelude.{◌≡◌, ℕ, ◌+◌, ◌*◌, ◌-◌, ◌/◌, ◌^◌, ◌≤◌, ◌<◌}
use Rattle.std.proofs.Common.{sym, ◌∙◌, ap, subst, mul_assoc, mul_comm, div-lt_iff_lt-mul, pos_of_ne-zero, arith, pow-add}
use Rattle.std.specs.Int.{◌∣◌}
use Rattle.std.proofs.Math.Nat.{dvd_trans, dvd-mul_left, dvd-mul_right, dvd_of_mod-eq-zero, div-mul_cancel}
use Rattle.shape.specs.declared.Shape.{Shape}
use Rattle.shape.specs.Limits.{parts, unit}
use Rattle.shape.specs.Blocks.{size, count, bytes}
use Rattle.shape.specs.Laws.{Limits}

-- as many blocks of a level as a top block has fill it
pub size-fills : (s : Shape) (l : ℕ) → Limits s → l < s.levels → size s l * parts s ^ l ≡ s.top_size
unfolding size unit
size-fills s l h k =
    div-mul_cancel (parts s ^ l)
    (dvd_trans _ divides (dvd_trans _ (dvd-mul_left _ 4) (dvd_of_mod-eq-zero (unit s) h.multiple)))
  where
    deepest : l + (s.levels - 1 - l) ≡ s.levels - 1
    deepest = omega arith

    divides : parts s ^ l ∣ parts s ^ (s.levels - 1)
    divides = subst (λ (n : ℕ). parts s ^ l ∣ n) (sym (pow-add (parts s) l _) ∙ ap (λ (n : ℕ). parts s ^ n) deepest) (dvd-mul_right _ _)

-- no level's blocks are empty
pub size-some : (s : Shape) (l : ℕ) → Limits s → l < s.levels → 1 ≤ size s l
size-some s l h k =
    pos_of_ne-zero (λ e. omega (arith, h.top.0, sym (size-fills s l h k) ∙ ap (λ (n : ℕ). n * parts s ^ l) e))

-- and all of them fill the pool
pub count-fills : (s : Shape) (l : ℕ) → Limits s → l < s.levels → count s l * size s l ≡ bytes s
unfolding count
count-fills s l h k =
    mul_assoc s.tops (parts s ^ l) (size s l)
    ∙ ap (λ (n : ℕ). s.tops * n) (mul_comm (parts s ^ l) (size s l) ∙ size-fills s l h k)

-- so a byte of the pool lies in one of them
pub over-inside : (s : Shape) (l x : ℕ) → Limits s → l < s.levels → x < bytes s → x / size s l < count s l
over-inside s l x h k b = (div-lt_iff_lt-mul (size-some s l h k)).1 (rw (count-fills s l h k) b)
