-- A number of several bytes, byte by byte from the highest down, and how large it is.
-- Assumes nothing.
use mathlib.Core.Path.{◌≡◌, refl, sym, ap, ◌∙◌}
use mathlib.Core.List.{List, [], ◌∷◌, ◌++◌}
use Prim.Native.Nat.{ℕ, suc, ◌+◌, ◌*◌, ◌^◌, ◌≤◌, ◌<◌}
use native.Mathlib.Nat.{pow-suc, pow-le-pow_right}
use native.Mathlib.Omega.{arith}
use mir.Syntax.{w8}
use mir.Val.{Fits}
use lib.ListN.{length, get_or, length-append}
use Rattle.std.specs.List.{push}
use lib.Seq.{append_snoc}
use Rattle.std.proofs.lemmas.List.{append-nil, get_or-append-add}
use Rattle.laws.specs.Digits.{little}

-- bytes hold a number below a power of 256
below : (xs : List ℕ) → ((i : ℕ) → Fits w8 (get_or xs i 0)) → little xs < 256 ^ length xs
unfolding little
below [] h = omega arith
below (x ∷ xs) h = omega (arith, h 0, below xs (λ i. h (suc i)), pow-suc 256 (length xs))

-- the bytes behind those that are left hold this number
pub record Held (bytes left : List ℕ) (sum : ℕ) : Type 0 where
  pub behind : List ℕ
  pub joined : bytes ≡ left ++ behind
  pub held : sum ≡ little behind
  pub fits : (i : ℕ) → Fits w8 (get_or bytes i 0)
  pub few : length bytes ≤ 4
  pub small : sum < 4294967296

-- at first none
pub none-held :
    {bytes left : List ℕ} → ((i : ℕ) → Fits w8 (get_or bytes i 0)) → length bytes ≤ 4 → left ≡ bytes → Held bytes left 0
unfolding little
none-held {bytes} fit l e = record {
  behind = [];
  joined = sym e ∙ sym (append-nil _);
  held = refl;
  fits = fit;
  few = l;
  small = omega arith;
}

-- four bytes hold a number below 2^32
behind-small :
    {bytes : List ℕ} (left behind : List ℕ) → bytes ≡ left ++ behind → ((i : ℕ) → Fits w8 (get_or bytes i 0)) → length bytes ≤ 4 →
    little behind < 4294967296
behind-small left behind e f l =
    let short : length behind ≤ 4 = omega (arith, ap length e, length-append left behind) in
    omega (arith, below behind fits, pow-le-pow_right {n = 256} (omega arith) short)
  where
    fits : (i : ℕ) → Fits w8 (get_or behind i 0)
    fits i = rw (← get_or-append-add left behind i 0, ← e) (f (length left + i))

-- the last byte that is left goes before them
pub one-held :
    {bytes left : List ℕ} {sum : ℕ} (front : List ℕ) (x : ℕ) → Held bytes left sum → left ≡ push front x →
    Held bytes front (sum * 256 + x)
unfolding little
one-held {bytes} front x f e =
    let joined : bytes ≡ front ++ (x ∷ f.behind) =
    f.joined ∙ ap (λ (xs : List ℕ). xs ++ f.behind) e ∙ append_snoc front x f.behind in
    record {
      behind = x ∷ f.behind;
      joined = joined;
      held = omega (arith, f.held);
      fits = f.fits;
      few = f.few;
      small = omega (arith, f.held, behind-small front (x ∷ f.behind) joined f.fits f.few);
    }

-- at the end all
pub all-held : {bytes left : List ℕ} {sum : ℕ} → Held bytes left sum → length left ≡ 0 → sum ≡ little bytes
all-held {left = []} f e = rw f.joined f.held
all-held {left = x ∷ xs} f e = absurd (omega arith)

-- what the check of `number` uses
pub ruleset bytes_steps = (none-held, one-held, all-held)
