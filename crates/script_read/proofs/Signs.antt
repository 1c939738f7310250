-- A number of four bytes as a signed one: the upper half are the numbers from -1 down.
-- Assumes nothing.
use mathlib.Core.Path.{◌≡◌, refl, ap}
use mathlib.Core.Bool.{Bool, true, false, cond}
use Prim.Native.Nat.{ℕ, suc, ◌-◌, ◌≤◌}
use lib.IntN.{pos, negsuc}
use mir.Syntax.{w32}
use mir.Val.{SFits, of_z, to_z}
use mir.ValLaws.{to_z-of_z}
use native.Mathlib.Omega.{arith}
use lib.Dec.{ltb}
use borrow.Author.Tests.{ltb-true, ltb-false}
use Rattle.rules.specs.Script.{signed}

-- std reads the bits of a number as the rules do
pub signed_is : (n : ℕ) → to_z w32 n ≡ signed n
unfolding signed
signed_is n =
    let e : 4294967296 - suc n ≡ 4294967295 - n = omega arith in
    ap (λ (m : ℕ). cond (ltb n 2147483648) (pos n) (negsuc m)) e

-- a signed number is what its bits say
pub signed_back : (n : ℕ) → to_z w32 (of_z w32 (signed n)) ≡ signed n
unfolding signed
signed_back n = to_z-of_z w32 (signed n) (fit (ltb n 2147483648) refl)
  where
    fit : (b : Bool) → ltb n 2147483648 ≡ b → SFits w32 (signed n)
    fit true e = rw e (record { sfits = ltb-true n 2147483648 e })
    fit false e =
        let h : 2147483648 ≤ n = ltb-false n 2147483648 e in
        rw e (record { sfits = omega arith })
