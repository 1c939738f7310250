-- A number of milliseconds by its range: which kind of wait it is.
-- Assumes nothing.
use Rattle.std.proofs.Common.{◌≡◌, refl, zero, suc, ℤ, pos, negsuc, ◌≤ℤ◌, ◌<ℤ◌, arith, le-leb}
use Rattle.std.proofs.lemmas.Bool.{lt-leb}
use Rattle.std.proofs.lemmas.Int.{ints}
use Rattle.std.specs.Int.RustNames.{unsigned_abs}
use Rattle.shape.specs.declared.time.Wait.TheVariants.{Timed}
use Rattle.shape.specs.Time.{longest, ticks, wait}
use Rattle.std.specs.Prelude.{None, Some}

pub below : (z : ℤ) → z <ℤ negsuc 0 → None ≡ wait z
unfolding wait
below (pos n) h = absurd (omega (arith, ints))
below (negsuc zero) h = absurd (omega (arith, ints))
below (negsuc (suc n)) h = refl

pub over : (z : ℤ) → pos longest <ℤ z → None ≡ wait z
unfolding wait
over (pos zero) h = absurd (omega (arith, ints))
over (pos (suc n)) h = rw (lt-leb (suc n) longest (omega (arith, ints)))
over (negsuc n) h = absurd (omega (arith, ints))

pub timed : (z : ℤ) → pos 1 ≤ℤ z → z ≤ℤ pos longest → Some (Timed (record { 0 = ticks (unsigned_abs z) })) ≡ wait z
unfolding wait
timed (pos zero) h k = absurd (omega (arith, ints))
timed (pos (suc n)) h k = rw (le-leb (suc n) longest (omega (arith, ints)))
timed (negsuc n) h k = absurd (omega (arith, ints))
