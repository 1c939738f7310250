-- Document 01, 'Calls and steps': a wait stands in milliseconds, a deadline in ticks.
-- Assumes nothing.
use Rattle.std.specs.Prelude.{Option, None, Some, ◌≡◌, refl, Bool, true, false, cond, ℕ, zero, suc, ◌+◌, ◌/◌, ◌≤◌, ◌-◌, ℤ, pos, negsuc, leb}
use Rattle.std.proofs.Common.{arith, leb-true}
use Rattle.shape.specs.declared.time.Wait.{Wait}
use Rattle.shape.specs.declared.time.Wait.TheVariants.{Never, Forever, Timed}

-- the longest wait that is a time, and how long a tick is, in milliseconds
abbrev pub longest : ℕ
longest = 600000

abbrev pub tick : ℕ
tick = 10

-- milliseconds become ticks: rounded up
unfoldable pub ticks : ℕ → ℕ
ticks ms = (ms + (tick - 1)) / tick

-- a longer time has no fewer ticks
pub ticks-up : (m n : ℕ) → m ≤ n → ticks m ≤ ticks n
unfolding ticks
ticks-up m n h = omega arith

-- −1 is forever, 0 none, 1..600,000 a time
unfoldable pub wait : ℤ → Option Wait
wait (negsuc zero) = Some Forever
wait (negsuc (suc n)) = None
wait (pos zero) = Some Never
wait (pos (suc n)) = cond (leb (suc n) longest) (Some (Timed (record { 0 = ticks (suc n) }))) None

-- how many ticks a timed wait lasts
abbrev pub ticks_of : Option Wait → ℕ
ticks_of (Some Never) = 0
ticks_of (Some Forever) = 0
ticks_of (Some (Timed n)) = n.0
ticks_of None = 0

-- at most as many as the longest has
pub wait-most : (z : ℤ) → ticks_of (wait z) ≤ ticks longest
unfolding wait
wait-most (negsuc zero) = omega arith
wait-most (negsuc (suc n)) = omega arith
wait-most (pos zero) = omega arith
wait-most (pos (suc n)) = pick (leb (suc n) longest) refl
  where
    pick : (b : Bool) → leb (suc n) longest ≡ b → ticks_of (cond b (Some (Timed (record { 0 = ticks (suc n) }))) None) ≤ ticks longest
    pick true e = ticks-up (suc n) longest (leb-true (suc n) longest e)
    pick false e = omega arith
