-- Laws of map's row: the pool's top blocks are listed as its parts, and an empty row is written nowhere, so listing in it only counts.
-- Assumes nothing.
use Rattle.std.specs.Prelude.{Ok, Err}
use mathlib.Core.Path.{◌≡◌, refl, ◌∙◌, ap}
use mathlib.Core.Bool.{true}
use mathlib.Core.List.{List, [], ◌∷◌, ◌++◌}
use Prim.Native.Nat.{ℕ, suc, ◌-◌, ◌^◌, ◌≤◌, ◌<◌}
use native.Mathlib.Nat.{zero-add, sub_self, le_refl}
use native.Mathlib.Omega.{arith}
use lib.ListN.{length}
use lib.Seq.{sets}
use borrow.Author.Tests.{lt-ltb, le-ltb}
use Rattle.shape.specs.declared.Shape.{Shape}
use Rattle.shape.specs.Limits.{parts, allowed}
use Rattle.shape.specs.Blocks.{count, blocks}
use Rattle.shape.specs.Laws.{limits, count-top}
use Rattle.rules.specs.declared.Refusal.TheVariants.{RowTooShort}
use Rattle.rules.specs.Questions.{listed, map_block, map_ids, map_outcome, map_row}
use Rattle.questions.specs.Listing.{level_above, Listable, Listed}
use Rattle.questions.proofs.Listings.{listed-most, map_block-most}

pub pool-listable :
    (s : Shape) (states : List ℕ) → allowed s ≡ true → length states ≡ blocks s →
    Listable s states 0 (s.levels - 1) 0 s.tops
unfolding count
pool-listable s states h e =
    record {
      allowed = h;
      states = e;
      depth = omega (arith, limits s h);
      block = rw (sub_self, count-top) (omega arith);
      place = rw zero-add (le_refl _);
    }

pub pool-ids :
    (s : Shape) (states : List ℕ) →
    map_ids s states ≡ listed (map_block s states (s.levels - 1) (level_above s (s.levels - 1))) 0 s.tops
unfolding map_ids
pool-ids s states = rw sub_self

sets-nowhere : (ids : List ℕ) (at : ℕ) → sets [] at ids ≡ []
sets-nowhere [] at = refl
sets-nowhere (i ∷ ids) at = sets-nowhere ids (suc at)

-- the map has at most as many ids as the deepest level has blocks
pub roomy : (s : Shape) (states : List ℕ) → length (map_ids s states) ≤ count s (s.levels - 1)
unfolding map_ids count
roomy s states =
    listed-most (map_block s states (s.levels - 1) 0) (parts s ^ (s.levels - 1)) (map_block-most s states (s.levels - 1) 0) 0 s.tops

-- where the row is long enough, the ids are written
pub mapped :
    (s : Shape) (states : List ℕ) {row after : List ℕ} {next : ℕ} → length (map_ids s states) ≤ length row →
    Listed row 0 (map_ids s states) next after → map_outcome (Ok next) after ≡ map_row s states row
unfolding map_row
mapped s states {row} h p = rw (le-ltb (length row) (length (map_ids s states)) h, p.answered ∙ zero-add _, p.written)

module _ (s : Shape) (states row nowhere : List ℕ) (n : ℕ) (counted : Listed [] 0 (map_ids s states) n nowhere) where
  fits : n ≡ length (map_ids s states)
  fits = counted.answered ∙ zero-add _

  untouched : nowhere ++ row ≡ row
  untouched = ap (λ (r : List ℕ). r ++ row) (counted.written ∙ sets-nowhere (map_ids s states) 0)

  pub too_short : length (nowhere ++ row) < n → map_outcome (Err RowTooShort) (nowhere ++ row) ≡ map_row s states row
  unfolding map_row
  too_short h = rw (untouched, lt-ltb (length row) (length (map_ids s states)) (rw (untouched, fits) at h))

  pub counted-first :
      {next : ℕ} {after : List ℕ} → n ≤ length (nowhere ++ row) → Listed (nowhere ++ row) 0 (map_ids s states) next after →
      map_outcome (Ok next) after ≡ map_row s states row
  counted-first h p = mapped s states (rw (untouched, fits) at h) (rw untouched at p)
