-- The free lists: a list that names each FREE block of a level once and nothing else may be put as that level's list.
-- Assumes nothing.
use Rattle.std.specs.Prelude.{◌≡◌, true, ◌&&◌, ◌||◌, ◌⊎◌, ◌≢◌, length, get_or}
use Rattle.std.proofs.Common.{sym, ◌∙◌, ap, inl, inr, arith, le-leb, lt-ltb, le-ltb, eqb-true, eq-eqb}
use Rattle.std.proofs.Math.Bool.{Bool}
use mathlib.Core.List.{List}
use Prim.Native.Nat.{ℕ, ◌+◌, ◌≤◌, ◌<◌}
use Rattle.std.proofs.Math.Decide.{dec_lt, ℕ_discrete}
use Rattle.std.proofs.Math.ListN.{get_or-eq_default}
use Rattle.std.proofs.Math.Dec.{leb, ltb, eqb}
use Rattle.laws.specs.Tests.{bit, every, every-at, every_of, every-same, tally-most, both, both_of}
use Rattle.laws.specs.Lists.{times}
use Rattle.laws.specs.Sums.{members-counted}
use Rattle.shape.specs.declared.Shape.{Shape}
use Rattle.shape.specs.Blocks.{count, blocks}
use Rattle.shape.specs.Sections.{levels-apart}
use Rattle.rules.specs.Numbers.{FREE}
use Rattle.rules.specs.Tables.{state_at, section, free_list, put_list}
use Rattle.rules.specs.Valid.{list_ends, free_listed}
use Rattle.facts.specs.Given.{list-short}
use Rattle.facts.specs.Lists.{length-put_list, length-put, member-put, other-put, free_list-put, free_list-put-other}
use Rattle.laws.specs.Changes.{none-behind, all-below}
use Rattle.proved_valid.specs.Lines.{Pool}
use Rattle.proved_valid.specs.States.{Alike}

-- a list names each FREE block of level l once and nothing else
pub record Lists (s : Shape) (states : List ℕ) (l : ℕ) (xs : List ℕ) : Type 0 where
  pub each : (b : ℕ) → b < count s l → times b xs ≡ bit (eqb (state_at s states l b) FREE)
  pub others : (b : ℕ) → count s l ≤ b → times b xs ≡ 0

-- what is said of the table of lists
pub record Listing (s : Shape) (states lists : List ℕ) : Type 0 where
  pub long : length lists ≡ s.levels + blocks s
  pub ends : list_ends s lists ≡ true
  pub listed : free_listed s states lists ≡ true

pub listing : {s : Shape} {states owners lists : List ℕ} → Pool s states owners lists → Listing s states lists
listing p = record { long = p.lists_long; ends = p.ends; listed = p.listed }

pub listed_at :
    {s : Shape} {states lists : List ℕ} → Listing s states lists → (l : ℕ) → l < s.levels →
    Lists s states l (free_list s lists l)
unfolding free_listed
listed_at {s} {states} {lists} p l h = of (both below _ (every-at s.levels _ p.listed l h))
  where
    below : Bool
    below = every (length (free_list s lists l)) (λ i. ltb (get_or (free_list s lists l) i 0) (count s l))

    of :
        (below ≡ true)
        × (every (count s l) (λ b. eqb (times b (free_list s lists l)) (bit (eqb (state_at s states l b) FREE))) ≡ true) →
        Lists s states l (free_list s lists l)
    of f =
        record {
          each = λ b k. eqb-true _ _ (every-at (count s l) _ f.1 b k);
          others = none-behind (count s l) (free_list s lists l) f.0;
        }

pub listed_of :
    (s : Shape) (states lists : List ℕ) → ((l : ℕ) → l < s.levels → Lists s states l (free_list s lists l)) →
    free_listed s states lists ≡ true
unfolding free_listed
listed_of s states lists k =
    every_of s.levels _ (λ l h.
    both_of _ _ (all-below (count s l) (free_list s lists l) (k l h).others)
    (every_of (count s l) _ (λ b m. eq-eqb _ _ ((k l h).each b m))))

-- lists stay where no block becomes FREE and none ceases to be
pub listing-alike :
    {s : Shape} {before lists : List ℕ} (after : List ℕ) → Listing s before lists → Alike (λ x. eqb x FREE) before after →
    Listing s after lists
listing-alike {s} {before} {lists} after p a =
    record {
      long = p.long;
      ends = p.ends;
      listed =
          listed_of s after lists (λ l h.
          record {
            each = λ b k. (listed_at p l h).each b k ∙ ap bit (sym (a _));
            others = (listed_at p l h).others;
          });
    }

-- it is no longer than the level has blocks
listed-most : (s : Shape) (states : List ℕ) (l : ℕ) (xs : List ℕ) → Lists s states l xs → length xs ≤ count s l
listed-most s states l xs n =
    omega (
      arith,
      members-counted (count s l) (λ b. eqb (state_at s states l b) FREE) xs (all-below (count s l) xs n.others) n.each,
      tally-most (count s l) (λ b. eqb (state_at s states l b) FREE),
    )

-- the list of a level is put, and the blocks of other levels are FREE where they were
module _ {s : Shape} {before after lists : List ℕ} {l : ℕ} {xs : List ℕ} (p : Listing s before lists) (level : l < s.levels)
    (new : Lists s after l xs) where
  short : length xs ≤ count s l
  short = listed-most s after l xs new

  ends-put : list_ends s (put_list s lists l xs) ≡ true
  unfolding list_ends
  ends-put = every_of s.levels _ (λ m h. at m h (ℕ_discrete m l))
    where
      line : List ℕ → ℕ → Bool
      line cells m =
          leb (get_or cells m 0) (count s m)
          && every (count s m) (λ i. ltb i (get_or cells m 0) || eqb (get_or cells (section s m + i) 0) 0)

      here :
          (i : ℕ) → i < count s l → Dec (i < length xs) →
          (ltb i (length xs) || eqb (get_or (put_list s lists l xs) (section s l + i) 0) 0) ≡ true
      here i k (yes d) = rw (lt-ltb i (length xs) d)
      here i k (no d) =
          rw (
            le-ltb i (length xs) (omega arith),
            member-put s lists l p.long level xs i short k,
            get_or-eq_default xs 0 {n = i} (omega arith),
          )

      apart :
          (m i : ℕ) → i < count s m → m ≢ l → Dec (m < l) →
          (section s m + i < section s l) ⊎ (section s l + count s l ≤ section s m + i)
      apart m i b d (yes w) = inl (omega (arith, levels-apart s m l w))
      apart m i b d (no w) = inr (omega (arith, levels-apart s l m (omega arith)))

      at : (m : ℕ) → m < s.levels → Dec (m ≡ l) → line (put_list s lists l xs) m ≡ true
      at m h (yes q) =
          rw (q, length-put s lists l p.long level xs)
          (both_of _ _ (le-leb _ _ short) (every_of (count s l) _ (λ i k. here i k (dec_lt i (length xs)))))
      at m h (no q) =
          rw (other-put s lists l p.long level xs m short q (inl (omega arith)))
          (ap (λ (rest : Bool). leb (get_or lists m 0) (count s m) && rest)
          (every-same (count s m) _ _ (λ i k.
          ap (λ (n : ℕ). ltb i (get_or lists m 0) || eqb n 0)
          (other-put s lists l p.long level xs (section s m + i) short (omega arith) (apart m i k q (dec_lt m l)))))
          ∙ every-at s.levels _ p.ends m h)

  pub listing-put :
      ((m b : ℕ) → m ≢ l → m < s.levels → b < count s m →
      eqb (state_at s after m b) FREE ≡ eqb (state_at s before m b) FREE) →
      Listing s after (put_list s lists l xs)
  listing-put k =
      record {
        long = length-put_list s lists l xs ∙ p.long;
        ends = ends-put;
        listed = listed_of s after (put_list s lists l xs) (λ m h. at m h (ℕ_discrete m l));
      }
    where
      at : (m : ℕ) → m < s.levels → Dec (m ≡ l) → Lists s after m (free_list s (put_list s lists l xs) m)
      at m h (yes q) = rw (q, free_list-put s lists l p.long level xs short) new
      at m h (no q) =
          rw (free_list-put-other s lists l p.long level xs m short q h (list-short s lists p.ends m h))
          (record {
            each = λ b i. (listed_at p m h).each b i ∙ ap bit (sym (k m b q h i));
            others = (listed_at p m h).others;
          })
