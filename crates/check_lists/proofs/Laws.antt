-- One step of each loop of this crate that tests every number passed.
-- Assumes nothing.
use mathlib.Core.Path.{◌≡◌, sym}
use mathlib.Core.Bool.{Bool, ◌&&◌}
use Prim.Native.Nat.{ℕ, ◌+◌}
use Rattle.laws.specs.Tests.{every, every_more}

-- one number more is tested
pub flag-more : (f : ℕ → Bool) (i : ℕ) {ok : Bool} → ok ≡ every i f → (ok && f i) ≡ every (i + 1) f
flag-more f i e = rw e (sym (every_more i f))
