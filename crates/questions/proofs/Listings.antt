-- Laws of map: one run of ids behind another, what a block and parts list, and how many ids that is at the most.
-- Assumes nothing.
use mathlib.Core.Path.{◌≡◌, refl, sym, ◌∙◌, ap}
use mathlib.Core.Bool.{Bool, true, false, cond, ◌&&◌, false≢true}
use mathlib.Core.List.{List, [], ◌∷◌, ◌++◌, append_assoc, append-nil}
use Prim.Native.Nat.{ℕ, zero, suc, ◌+◌, ◌*◌, ◌-◌, ◌^◌, ◌≤◌, ◌<◌}
use native.Mathlib.Nat.{add-zero, suc-mul, one-mul, mul-add, mul-one, mul-le-mul_left, mul-le-mul_right, one-le-pow, pow-succ'}
use native.Mathlib.Numerals.{add-one, sub-one}
use native.Mathlib.Omega.{arith}
use lib.ListN.{length, get_or, set, length-append}
use lib.Seq.{set_out}
use lib.Dec.{eqb, ltb}
use borrow.Author.Tests.{lt-ltb, ltb-true}
use Rattle.laws.specs.Tests.{both}
use Rattle.laws.specs.Sets.{sets-append}
use Rattle.shape.specs.declared.Shape.{Shape}
use Rattle.shape.specs.Limits.{parts, most_count}
use Rattle.shape.specs.Blocks.{id, place}
use Rattle.shape.specs.Laws.{limits, parts-pos, count_next, count-range}
use Rattle.rules.specs.Numbers.{DIVIDED}
use Rattle.rules.specs.Tables.{state_at}
use Rattle.rules.specs.Questions.{listed, map_block}
use Rattle.questions.specs.Listing.{level_above, Listable, Listed}

-- the test of a block below which there is a level
pub deep : (depth : ℕ) (v : Bool) → (ltb 0 depth && v) ≡ true → 0 < depth
deep depth v e = ltb-true 0 depth (both _ _ e).0

-- nothing is listed, an id, and one run of ids behind another
pub none : (row : List ℕ) (at : ℕ) → Listed row at [] at row
none row at = record { answered = omega arith; written = refl }

pub single : (row : List ℕ) (at i : ℕ) → Listed row at (i ∷ []) (at + 1) (set row at i)
single row at i = record { answered = refl; written = refl }

pub single-out : (row : List ℕ) (at i : ℕ) → length row ≤ at → Listed row at (i ∷ []) (at + 1) row
single-out row at i h = record { answered = refl; written = sym (set_out row at i h) }

pub behind :
    {row between after xs ys : List ℕ} {at middle next : ℕ} → Listed row at xs middle between →
    Listed between middle ys next after → Listed row at (xs ++ ys) next after
behind {row} {between} {after} {xs} {ys} {at} p q =
    record {
      answered = omega (arith, p.answered, q.answered, length-append xs ys);
      written = q.written ∙ rw (p.written, p.answered) (sets-append row xs ys at);
    }

-- one part more
pub listed_more : (f : ℕ → List ℕ) (b n : ℕ) → listed f b (n + 1) ≡ listed f b n ++ f (b + n)
unfolding listed
listed_more f b n = rw add-one (last b n)
  where
    last : (b n : ℕ) → listed f b (suc n) ≡ listed f b n ++ f (b + n)
    last b zero = rw (append-nil, add-zero)
    last b (suc n) = ap (λ (r : List ℕ). f b ++ r) (last (b + 1) n) ∙ rw (append_assoc, next)
      where
        next : b + 1 + n ≡ b + suc n
        next = omega arith

pub listed-most :
    (f : ℕ → List ℕ) (m : ℕ) → ((b : ℕ) → length (f b) ≤ m) → (b n : ℕ) → length (listed f b n) ≤ n * m
unfolding listed
listed-most f m h b zero = omega arith
listed-most f m h b (suc n) =
    omega (arith, h b, listed-most f m h (b + 1) n, length-append (f b) (listed f (b + 1) n), suc-mul n m)

pub map_block-most :
    (s : Shape) (states : List ℕ) (depth l b : ℕ) → length (map_block s states depth l b) ≤ parts s ^ depth
unfolding map_block
map_block-most s states zero l b = one-le-pow 0 (parts s) (parts-pos s)
map_block-most s states (suc depth) l b =
    pick (eqb (state_at s states l b) DIVIDED)
    (listed-most _ (parts s ^ depth) (map_block-most s states depth (l + 1)) (parts s * b) (parts s))
  where
    pick :
        (v : Bool) → length (listed (map_block s states depth (l + 1)) (parts s * b) (parts s)) ≤ parts s * parts s ^ depth →
        length (cond v (listed (map_block s states depth (l + 1)) (parts s * b) (parts s)) (id s l b ∷ [])) ≤ parts s ^ suc depth
    pick true h = rw pow-succ' h
    pick false h = one-le-pow (suc depth) (parts s) (parts-pos s)

deeper : (s : Shape) (depth : ℕ) → suc depth < s.levels → level_above s depth ≡ level_above s (suc depth) + 1
deeper s depth h = omega arith

-- a divided block, whose state stands at p, lists its parts, and any other its id
pub divided :
    (s : Shape) (states : List ℕ) (depth b p : ℕ) → depth < s.levels → p ≡ place s (level_above s depth) b →
    (ltb 0 depth && eqb (get_or states p 0) DIVIDED) ≡ true →
    map_block s states depth (level_above s depth) b
    ≡ listed (map_block s states (depth - 1) (level_above s (depth - 1))) (parts s * b) (parts s)
unfolding map_block
divided s states zero b p k q e = absurd (false≢true e)
divided s states (suc depth) b p k q e =
    rw (rw q at (both (ltb 0 (suc depth)) _ e).1, sub-one (suc depth), deeper s depth k)

pub undivided :
    (s : Shape) (states : List ℕ) (depth l b p : ℕ) → p ≡ place s l b →
    (ltb 0 depth && eqb (get_or states p 0) DIVIDED) ≡ false → map_block s states depth l b ≡ id s l b ∷ []
unfolding map_block
undivided s states zero l b p q e = refl
undivided s states (suc depth) l b p q e = rw (rw (lt-ltb 0 (suc depth) (omega arith), q) at e)

-- the numbers of blocks that can be listed, the places of their ids, and a block's id
pub most :
    {s : Shape} {states : List ℕ} {at depth b n : ℕ} → Listable s states at depth b n →
    (b + n ≤ most_count) × (at + n * parts s ^ depth ≤ most_count)
most {s} {states} {at} {depth} p = (
  omega (arith, p.block, count-range s (level_above s depth) (limits s p.allowed) (omega (arith, p.depth))),
  omega (arith, p.place, count-range s (s.levels - 1) (limits s p.allowed) (omega (arith, p.depth))),
)

pub id-most :
    {s : Shape} {states : List ℕ} {at depth b : ℕ} → Listable s states at depth b 1 →
    id s (level_above s depth) b < 4096 * 4096
id-most {s} p = omega (arith, most p, limits s p.allowed)

-- the parts of a block can be listed where it can, and each of them where all can
pub parts-listable :
    {s : Shape} {states : List ℕ} {at depth b : ℕ} → 0 < depth → Listable s states at depth b 1 →
    Listable s states at (depth - 1) (parts s * b) (parts s)
parts-listable {s} {depth = zero} h p = absurd (omega arith)
parts-listable {s} {depth = suc depth} h p =
    rw (sub-one (suc depth))
    (record {
      allowed = p.allowed;
      states = p.states;
      depth = omega (arith, p.depth);
      block =
          rw (deeper s depth p.depth, count_next) (rw (mul-add, mul-one) at (mul-le-mul_left (parts s) p.block));
      place = rw (one-mul, pow-succ') at p.place;
    })

pub part-listable :
    {s : Shape} {states : List ℕ} {at depth b n i next : ℕ} → Listable s states at depth b n → i < n →
    next ≡ at + length (listed (map_block s states depth (level_above s depth)) b i) → Listable s states next depth (b + i) 1
part-listable {s} {states} {at} {depth} {b} {n} {i} p h e =
    record {
      allowed = p.allowed;
      states = p.states;
      depth = p.depth;
      block = omega (arith, p.block);
      place =
          omega (
            arith,
            p.place,
            listed-most (map_block s states depth _) (parts s ^ depth) (map_block-most s states depth (level_above s depth)) b i,
            mul-le-mul_right {m = suc i} {n = n} (parts s ^ depth) h,
            suc-mul i (parts s ^ depth),
          );
    }
