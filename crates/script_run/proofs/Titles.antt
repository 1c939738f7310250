-- The header and what stands behind it are the listing.
-- Assumes nothing.
use Rattle.std.specs.Prelude.{Err}
use mathlib.Core.Path.{◌≡◌, ap}
use mathlib.Core.List.{List, ◌++◌}
use Prim.Native.Nat.{ℕ, ◌≤◌, ◌<◌}
use native.Mathlib.Omega.{arith}
use lib.ListN.{length}
use lib.Seq.{sets, length-sets}
use borrow.Author.Tests.{eq-eqb, ne_eqb, lt-ltb, le-ltb}
use Rattle.laws.specs.Sets.{Put, put-behind}
use Rattle.rules.specs.declared.Refusal.TheVariants.{BadRecord}
use Rattle.rules.specs.Numbers.{MOST-BYTES}
use Rattle.rules.specs.Tables.{fresh}
use Rattle.rules.specs.Listing.{header, line, lines, no_shape, listing}
use Rattle.script_run.specs.Listed.{LISTING-MOST, AllListed}
use Rattle.script_run.proofs.Going.{Line}

-- the listing stands in the buffer from its start on, and the place behind it is known
abbrev pub Whole : List ℕ → List ℕ → ℕ → List ℕ → Type 0
Whole xs out last after = (after ≡ sets out 0 (listing xs)) × (last ≡ length (listing xs)) × (last ≤ length after)

module _ (xs out : List ℕ) {headed : List ℕ} {end : ℕ} (l : length out ≡ LISTING-MOST) (h : Put out 0 header end headed) where
  whole :
      (run : List ℕ) {last : ℕ} {after : List ℕ} → listing xs ≡ header ++ run → Put headed end run last after →
      last ≤ LISTING-MOST → Whole xs out last after
  whole run {last} {after} q p k =
      let all : Put out 0 (header ++ run) last after = put-behind out 0 header run h p in
      rw q (all.1, omega (arith, all.0), omega (arith, ap length all.1, length-sets out 0 (header ++ run)))

  pub empty :
      {last : ℕ} {after : List ℕ} → length xs ≡ 0 → Line headed end 0 0 (Err (BadRecord 0)) last after →
      Whole xs out last after
  unfolding listing
  empty z p = whole (line 0 0 (Err (BadRecord 0))) (rw (eq-eqb (length xs) 0 z)) (p.0, p.1) (omega arith)

  pub too_long :
      {last : ℕ} {after : List ℕ} → MOST-BYTES < length xs →
      Line headed end 0 0 (Err (BadRecord MOST-BYTES)) last after → Whole xs out last after
  unfolding listing
  too_long m p =
      whole (line 0 0 (Err (BadRecord MOST-BYTES)))
      (rw (ne_eqb (length xs) 0 (λ z. omega arith), lt-ltb MOST-BYTES (length xs) m))
      (p.0, p.1)
      (omega arith)

  -- any other script is run
  module _ (n : length xs ≡ 0 → ⊥) (m : length xs ≤ MOST-BYTES) where
    pub run-whole : {last : ℕ} {after : List ℕ} → AllListed xs headed end after last → Whole xs out last after
    unfolding listing
    run-whole p =
        whole (lines (length xs) xs 0 0 no_shape (fresh no_shape))
        (rw (ne_eqb (length xs) 0 n, le-ltb MOST-BYTES (length xs) m))
        (p.put (length xs) (omega arith))
        p.within
