-- Marks, a bit a block: one member more is one bit more.
-- Assumes nothing.
use mathlib.Core.Path.{◌≡◌, refl, sym, ◌∙◌, ap, ap₂}
use mathlib.Core.Bool.{Bool, true, false, not, ◌&&◌, ◌||◌, and_assoc, and-true}
use mathlib.Core.List.{List, ◌++◌}
use Prim.Native.Nat.{ℕ, min, max, ◌+◌, ◌*◌, ◌/◌, ◌%◌, ◌^◌, ◌≤◌, ◌<◌}
use native.Mathlib.Nat.{add-zero, zero-div}
use Rattle.std.proofs.Common.{zero-add}
use Rattle.std.proofs.lemmas.List.{length-append, get_or_append_left, get_or-append-add}
use native.Mathlib.Omega.{arith}
use lib.ListN.{length, get_or, set, take, length-set, replicate, length-replicate}
use lib.Seq.{get_or-set_same, get_or-set_other, take_all}
use lib.Bits.{bit_or, or_step, or_shr}
use lib.Dec.{eqb, ltb}
use borrow.Author.Tests.{ltb-true, eqb-true, eqb-false, eq-eqb, ne_eqb, lt-ltb}
use Rattle.laws.specs.Tests.{bit, every, every-none, every-at, every-same, every_upto}
use Rattle.laws.specs.Lists.{times}
use Rattle.laws.specs.Times.{same_test, times_none, times_more}
use Rattle.laws.specs.Changes.{get_or-zeros}
use Rattle.shape.specs.Limits.{most_count}
use Rattle.shape.specs.Levels.{every-behind}
use Rattle.check_lists.specs.Level.{below, free}
use Rattle.check_lists.specs.Marks.{row, marked_in, marked, free_marked, all_marked, Unmarked}

-- a number with one bit, as the code makes it
abbrev one : ℕ → ℕ
one j = 1 * 2 ^ j % 256

-- its bits
one-bits : every 8 (λ j. every 8 (λ k. eqb (one j / 2 ^ k % 2) (bit (eqb k j)))) ≡ true
unfolding every
one-bits = refl

one_bit : (j k : ℕ) → j < 8 → k < 8 → one j / 2 ^ k % 2 ≡ bit (eqb k j)
one_bit j k h l =
    eqb-true _ _ (every-at 8 _ (every-at 8 (λ j. every 8 (λ k. eqb (one j / 2 ^ k % 2) (bit (eqb k j)))) one-bits j h) k l)

-- a bit of either number
or-bit : (m n k : ℕ) → bit_or m n / 2 ^ k % 2 ≡ max (m / 2 ^ k % 2) (n / 2 ^ k % 2)
or-bit m n k = rw (or_shr m n k, or_step (m / 2 ^ k) (n / 2 ^ k)) (omega arith)

-- one bit more is set
set-bit : (m j k : ℕ) → j < 8 → k < 8 → eqb (bit_or m (one j) / 2 ^ k % 2) 1 ≡ (eqb k j || eqb (m / 2 ^ k % 2) 1)
set-bit m j k h l = rw (or-bit m (one j) k, one_bit j k h l) (go (eqb k j))
  where
    go : (a : Bool) → eqb (max (m / 2 ^ k % 2) (bit a)) 1 ≡ (a || eqb (m / 2 ^ k % 2) 1)
    go true = eq-eqb (max (m / 2 ^ k % 2) 1) 1 (omega arith)
    go false = let e : max (m / 2 ^ k % 2) 0 ≡ m / 2 ^ k % 2 = omega arith in rw e

-- of a level's blocks those are marked that the first i members name
pub record Marked (members marks : List ℕ) (i : ℕ) : Type 0 where
  pub inside : below members most_count ≡ true
  pub reached : i ≤ length members
  pub long : length marks ≡ row
  pub told : (b : ℕ) → b < most_count → marked marks b ≡ ltb 0 (times b (take i members))

pub marked-none : (members marks : List ℕ) → (below members most_count ≡ true) × Unmarked marks → Marked members marks 0
marked-none members marks h =
    record {
      inside = h.0;
      reached = omega arith;
      long = h.1.long;
      told = λ b l. rw (times_none, h.1.unset (b % row), zero-div);
    }

-- zeros mark nothing
pub unmarked : Unmarked (replicate row 0)
unmarked = record { long = length-replicate {A = ℕ} row 0; unset = get_or-zeros row }

-- the next member is a block
pub marked-at :
    {members marks : List ℕ} {i : ℕ} → Marked members marks i → i < length members → get_or members i 0 < most_count
marked-at {members} {marks} {i} m h =
    ltb-true _ _ (every-at (length members) (λ k. ltb (get_or members k 0) most_count) m.inside i h)

-- one block more is marked
block_more :
    (marks : List ℕ) (c b : ℕ) → length marks ≡ row → c < most_count → b < most_count →
    marked (set marks (c % row) (bit_or (get_or marks (c % row) 0) (one (c / row)))) b ≡ (eqb b c || marked marks b)
block_more marks c b n h l = go (eqb (b % row) (c % row)) refl
  where
    v : ℕ
    v = bit_or (get_or marks (c % row) 0) (one (c / row))

    -- two blocks of one byte are one where their bits are
    same_byte : b % row ≡ c % row → eqb (b / row) (c / row) ≡ eqb b c
    same_byte e =
        same_test _ _ (λ f. eq-eqb b c (omega (arith, eqb-true (b / row) (c / row) f)))
        (λ f. eq-eqb (b / row) (c / row) (ap (λ (n : ℕ). n / row) (eqb-true b c f)))

    go : (t : Bool) → eqb (b % row) (c % row) ≡ t → marked (set marks (c % row) v) b ≡ (eqb b c || marked marks b)
    go true f =
        let e : b % row ≡ c % row = eqb-true _ _ f in
        ap (λ (n : ℕ). marked_in (set marks (c % row) v) n (b / row)) e
        ∙ ap (λ (n : ℕ). eqb (n / 2 ^ (b / row) % 2) 1) (get_or-set_same marks (c % row) v 0 (omega arith))
        ∙ set-bit (get_or marks (c % row) 0) (c / row) (b / row) (omega arith) (omega arith)
        ∙ ap₂ ◌||◌ (same_byte e) (ap (λ (n : ℕ). marked_in marks n (b / row)) (sym e))
    go false f =
        ap (λ (n : ℕ). eqb (n / 2 ^ (b / row) % 2) 1) (get_or-set_other marks (c % row) (b % row) v 0 (eqb-false _ _ f))
        ∙ ap (λ (a : Bool). a || marked marks b) (sym (ne_eqb b c (λ z. eqb-false _ _ f (ap (λ (n : ℕ). n % row) z))))

-- and with it one member more
pub marked_more :
    {members marks : List ℕ} {i : ℕ} → Marked members marks i → i < length members →
    Marked members
    (set marks (get_or members i 0 % row) (bit_or (get_or marks (get_or members i 0 % row) 0) (one (get_or members i 0 / row)))) (i + 1)
marked_more {members} {marks} {i} m h =
    record {
      inside = m.inside;
      reached = omega arith;
      long = simp length-set m.long;
      told = λ b l.
          block_more marks (get_or members i 0) b m.long (marked-at m h) l
          ∙ rw (m.told b l, times_more b members i h) (named (times b (take i members)) (eqb b (get_or members i 0)));
    }
  where
    named : (n : ℕ) (a : Bool) → (a || ltb 0 n) ≡ ltb 0 (n + bit a)
    named n true = sym (lt-ltb 0 (n + 1) (omega arith))
    named n false = rw add-zero

-- all members are marked
pub marked_all :
    {members marks : List ℕ} {i : ℕ} → Marked members marks i → length members ≤ i →
    (b : ℕ) → b < most_count → marked marks b ≡ ltb 0 (times b members)
marked_all {members} {marks} {i} m h b l = m.told b l ∙ rw (take_all i members)

-- each FREE block behind the first rows is marked
abbrev rest_marked : List ℕ → List ℕ → ℕ → ℕ → Bool
rest_marked left marks bit i = not (free left i) || marked marks (row * bit + i)

-- the flag says whether those before the states that are left are marked, which begin with a row
pub record Rows (states marks left : List ℕ) (ok : Bool) (bit : ℕ) : Type 0 where
  pub start : 0 < length left → row * bit + length left ≡ length states
  pub told : (ok && every (length left) (rest_marked left marks bit)) ≡ every (length states) (all_marked states marks)

pub rows_none : (states marks : List ℕ) → Rows states marks states true 0
rows_none states marks = record { start = λ h. omega arith; told = every-same (length states) _ _ (λ i l. rw zero-add) }

-- a part has its place in a row
pub rows_fit :
    {states marks left : List ℕ} {ok : Bool} {bit size : ℕ} (part : List ℕ) → Rows states marks left ok bit →
    length states ≤ most_count → size ≡ row → length part ≡ min size (length left) → 0 < length left →
    (length part ≤ row) × (row * bit + length part ≤ most_count)
rows_fit part r few q h s = (omega (arith, h, q), omega (arith, r.start s, h, q))

-- one row more
pub rows_more :
    {states marks left : List ℕ} {ok more : Bool} {bit size : ℕ} (part rest : List ℕ) → Rows states marks left ok bit →
    size ≡ row → left ≡ part ++ rest → length part ≡ min size (length left) → 0 < length left →
    more ≡ every (length part) (free_marked part marks bit) → Rows states marks rest (ok && more) (bit + 1)
rows_more {states} {marks} {left} {ok} {more} {bit} part rest r q e h s m = record { start = start; told = told }
  where
    long : length left ≡ length part + length rest
    long = rw e (length-append part rest)

    start : 0 < length rest → row * (bit + 1) + length rest ≡ length states
    start l = omega (arith, r.start s, long, h, q)

    here : (i : ℕ) → i < length part → rest_marked left marks bit i ≡ free_marked part marks bit i
    here i l =
        let byte : (row * bit + i) % row ≡ i = omega (arith, h, q) in
        let at : (row * bit + i) / row ≡ bit = omega (arith, h, q) in
        rw (byte, at, e, get_or_append_left part rest 0 i l)

    there : (i : ℕ) → i < length rest → rest_marked left marks bit (length part + i) ≡ rest_marked rest marks (bit + 1) i
    there i l =
        let next : row * bit + (length part + i) ≡ row * (bit + 1) + i = omega (arith, long, h, q) in
        rw (next, e, get_or-append-add part rest i 0)

    both : every (length left) (rest_marked left marks bit) ≡ (more && every (length rest) (rest_marked rest marks (bit + 1)))
    both =
        rw (long, m) (every-behind (length part) (length rest) (rest_marked left marks bit)
        ∙ ap₂ ◌&&◌ (every-same (length part) _ _ here) (every-same (length rest) _ _ there))

    told : ((ok && more) && every (length rest) (rest_marked rest marks (bit + 1))) ≡ every (length states) (all_marked states marks)
    told = and_assoc ok more _ ∙ ap (λ (t : Bool). ok && t) (sym both) ∙ r.told

-- all rows
pub rows_all :
    {states marks left : List ℕ} {ok : Bool} {bit : ℕ} → Rows states marks left ok bit → length left ≡ 0 →
    ok ≡ every (length states) (all_marked states marks)
rows_all {marks = marks} {left} {ok} {bit} r e =
    sym (ap (λ (t : Bool). ok && t) (every_upto _ 0 (rest_marked left marks bit) e ∙ every-none _) ∙ and-true ok) ∙ r.told
