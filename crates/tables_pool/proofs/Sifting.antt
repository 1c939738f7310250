-- Going through a row: what stands in it once its first i members have been looked at, and one turn more.
-- Assumes nothing.
use mathlib.Core.Path.{◌≡◌, refl, sym, ◌∙◌, ap}
use mathlib.Core.Bool.{Bool, true, false}
use mathlib.Core.List.{List}
use Prim.Native.Nat.{ℕ, ◌+◌, ◌≤◌, ◌<◌}
use native.Mathlib.Omega.{arith}
use lib.ListN.{length, get_or, take, set, length-append, length-set}
use Rattle.laws.specs.Lists.{pad, keep}
use Rattle.laws.specs.Keep.{sifted, sifted-none, sifted-at, sifted-pass, sifted-fail, sifted-all, keep-pass, keep-fail, keep-none}
use Rattle.tables_pool.specs.Row.{Ended}

pub record Sifting (f : ℕ → Bool) (whole row : List ℕ) (kept i : ℕ) : Type 0 where
  pub wide : length row ≡ length whole
  pub most : kept ≤ i
  pub places : row ≡ sifted f i whole
  pub number : kept ≡ length (keep f (take i whole))

pub sifting-none : (f : ℕ → Bool) (whole : List ℕ) → Sifting f whole whole 0 0
sifting-none f whole =
    record { wide = refl; most = omega arith; places = sym (sifted-none f whole); number = sym (ap length (keep-none f)) }

module _ {f : ℕ → Bool} {whole row : List ℕ} {kept i : ℕ} (a : Sifting f whole row kept i) (h : i < length whole) where
  here : get_or row i 0 ≡ get_or whole i 0
  here = rw a.places (sifted-at f i whole h)

  pub sifting-pass : f (get_or row i 0) ≡ true → Sifting f whole (set (set row i 0) kept (get_or row i 0)) (kept + 1) (i + 1)
  sifting-pass p =
      record {
        wide = simp length-set a.wide;
        most = omega (arith, a.most);
        places = rw (here, a.places, a.number) (sifted-pass f i whole h (rw here at p));
        number = rw (keep-pass f whole i h (rw here at p), length-append, a.number);
      }

  pub sifting-fail : f (get_or row i 0) ≡ false → Sifting f whole (set row i 0) kept (i + 1)
  sifting-fail p =
      record {
        wide = simp length-set a.wide;
        most = omega (arith, a.most);
        places = rw a.places (sifted-fail f i whole h (rw here at p));
        number = rw (keep-fail f whole i h (rw here at p)) a.number;
      }

-- all members up to n have been looked at, and zeros stand behind
pub sifting-all :
    {f : ℕ → Bool} {whole row : List ℕ} {kept i : ℕ} → Sifting f whole row kept i → (n : ℕ) → i ≡ n → Ended whole n →
    (kept ≡ length (keep f (take n whole))) × (row ≡ pad (length whole) (keep f (take n whole)))
sifting-all {f} {whole} a n e ended =
    (rw (← e) a.number, a.places ∙ rw e (sifted-all f n whole ended.most ended.zeros))
