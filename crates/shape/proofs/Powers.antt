-- Powers of the number of parts as shifts, and what lies above a level as a sum of powers.
-- Assumes nothing.
use mathlib.Core.Path.{◌≡◌, refl}
use Prim.Native.Nat.{ℕ, zero, suc, ◌*◌, ◌-◌, ◌/◌, ◌%◌, ◌^◌, ◌≤◌}
use native.Mathlib.Omega.{arith}
use Rattle.shape.specs.declared.Shape.{Shape}
use Rattle.shape.specs.Limits.{parts, most_levels}
use Rattle.shape.specs.Blocks.{count, above}

-- one, shifted by two for each level
pub power : (l : ℕ) → l ≤ most_levels → 1 * 2 ^ (2 * l) % 2 ^ 64 ≡ 4 ^ l
power zero h = refl
power (suc zero) h = refl
power (suc (suc zero)) h = refl
power (suc (suc (suc zero))) h = refl
power (suc (suc (suc (suc zero)))) h = refl
power (suc (suc (suc (suc (suc zero))))) h = refl
power (suc (suc (suc (suc (suc (suc l)))))) h = absurd (omega arith)

pub power-range : (l : ℕ) → l ≤ most_levels → (1 ≤ 4 ^ l) × (4 ^ l ≤ 1024)
power-range zero h = omega arith
power-range (suc zero) h = omega arith
power-range (suc (suc zero)) h = omega arith
power-range (suc (suc (suc zero))) h = omega arith
power-range (suc (suc (suc (suc zero)))) h = omega arith
power-range (suc (suc (suc (suc (suc zero))))) h = omega arith
power-range (suc (suc (suc (suc (suc (suc l)))))) h = absurd (omega arith)

-- the sums of the powers, times the top blocks, are what lies above each level
sums : (s : Shape) (l : ℕ) → l ≤ most_levels → s.tops * ((4 ^ l - 1) / 3) ≡ above s l
unfolding above count parts
sums s zero h = omega arith
sums s (suc zero) h = omega arith
sums s (suc (suc zero)) h = omega arith
sums s (suc (suc (suc zero))) h = omega arith
sums s (suc (suc (suc (suc zero)))) h = omega arith
sums s (suc (suc (suc (suc (suc zero))))) h = omega arith
sums s (suc (suc (suc (suc (suc (suc l)))))) h = absurd (omega arith)

pub sum-above : (s : Shape) (l n : ℕ) → l ≤ most_levels → n ≡ parts s ^ l → s.tops * ((n - 1) / 3) ≡ above s l
unfolding parts
sum-above s l n h e = rw e (sums s l h)
