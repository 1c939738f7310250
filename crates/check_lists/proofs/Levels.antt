-- From one level's parts of the tables to all levels.
-- Assumes nothing.
use mathlib.Core.Path.{◌≡◌, refl, sym, ◌∙◌, ap, ap₂}
use mathlib.Core.Bool.{Bool, true, false, ◌&&◌, ◌||◌}
use mathlib.Core.List.{List}
use Prim.Native.Nat.{ℕ, ◌+◌, ◌-◌, ◌≤◌, ◌<◌}
use native.Mathlib.Omega.{arith}
use lib.ListN.{length, get_or, take, drop, length-drop}
use lib.Seq.{get_or-drop, get_or-take, length-take-le, take-take}
use lib.Dec.{eqb, ltb, leb}
use borrow.Author.Tests.{leb-true}
use Rattle.laws.specs.Tests.{bit, every, every-none, every_more, every-not, every-same, every-both, both_of}
use Rattle.laws.specs.Lists.{times}
use Rattle.shape.specs.declared.Shape.{Shape}
use Rattle.shape.specs.Limits.{most_count, allowed, most_blocks, most_levels}
use Rattle.shape.specs.Blocks.{count, above, blocks}
use Rattle.shape.specs.Laws.{limits, above-none, above-next, above-up, count-range, blocks-most}
use Rattle.rules.specs.Numbers.{FREE}
use Rattle.rules.specs.Tables.{state_at, section, free_list}
use Rattle.rules.specs.Valid.{list_ends, free_listed}
use Rattle.check_lists.specs.Level.{level_valid}

-- a part of a table
abbrev pub part : List ℕ → ℕ → ℕ → List ℕ
part xs from n = take n (drop from xs)

part-long : (xs : List ℕ) (from n : ℕ) → from + n ≤ length xs → length (part xs from n) ≡ n
part-long xs from n h = length-take-le n (drop from xs) (simp length-drop (omega arith))

part_at : (xs : List ℕ) (from n i : ℕ) → i < n → get_or (part xs from n) i 0 ≡ get_or xs (from + i) 0
part_at xs from n i h = rw (get_or-take, get_or-drop)

-- what validity says of a level, of the parts and of the whole tables
part-valid :
    (states lists : List ℕ) (n a b used : ℕ) → a + n ≤ length states → b + n ≤ length lists →
    level_valid (part states a n) (part lists b n) used
    ≡ ((leb used n && every n (λ i. ltb i used || eqb (get_or lists (b + i) 0) 0))
    && (every (length (part lists b used)) (λ i. ltb (get_or (part lists b used) i 0) n)
    && every n (λ k. eqb (times k (part lists b used)) (bit (eqb (get_or states (a + k) 0) FREE)))))
unfolding level_valid
part-valid states lists n a b used h k =
    rw (part-long states a n h, part-long lists b n k)
    (pick (leb used n) refl)
  where
    pick :
        (t : Bool) → leb used n ≡ t →
        ((t && every n (λ i. ltb i used || eqb (get_or (part lists b n) i 0) 0))
        && (every (length (take used (part lists b n))) (λ i. ltb (get_or (take used (part lists b n)) i 0) n)
        && every n (λ k. eqb (times k (take used (part lists b n))) (bit (eqb (get_or (part states a n) k 0) FREE)))))
        ≡ ((t && every n (λ i. ltb i used || eqb (get_or lists (b + i) 0) 0))
        && (every (length (part lists b used)) (λ i. ltb (get_or (part lists b used) i 0) n)
        && every n (λ k. eqb (times k (part lists b used)) (bit (eqb (get_or states (a + k) 0) FREE)))))
    pick false e = refl
    pick true e =
        rw (take-take used n (drop b lists) (leb-true used n e))
        (ap₂ ◌&&◌
        (every-same n _ _ (λ i l. ap (λ (x : ℕ). ltb i used || eqb x 0) (part_at lists b n i l)))
        (ap (λ (t : Bool). every (length (part lists b used)) (λ i. ltb (get_or (part lists b used) i 0) n) && t)
        (every-same n _ _ (λ k l. ap (λ (x : ℕ). eqb (times k (part lists b used)) (bit (eqb x FREE))) (part_at states a n k l)))))

-- a part of a table, from its start to its end
abbrev pub cut : List ℕ → ℕ → ℕ → List ℕ
cut xs a e = take (e - a) (drop a xs)

gap : (a n : ℕ) → (a + n) - a ≡ n
gap a n = omega arith

gap-behind : (b a n : ℕ) → (b + (a + n)) - (b + a) ≡ n
gap-behind b a n = omega arith

-- what validity says of level l
abbrev pub ends_at : Shape → List ℕ → ℕ → Bool
ends_at s lists l =
    leb (get_or lists l 0) (count s l)
    && every (count s l) (λ i. ltb i (get_or lists l 0) || eqb (get_or lists (section s l + i) 0) 0)

abbrev pub listed_at : Shape → List ℕ → List ℕ → ℕ → Bool
listed_at s states lists l =
    every (length (free_list s lists l)) (λ i. ltb (get_or (free_list s lists l) i 0) (count s l))
    && every (count s l) (λ b. eqb (times b (free_list s lists l)) (bit (eqb (state_at s states l b) FREE)))

pub valid_at : Shape → List ℕ → List ℕ → ℕ → Bool
valid_at s states lists l = ends_at s lists l && listed_at s states lists l

-- level by level or line by line
lines : (s : Shape) (states lists : List ℕ) → every s.levels (valid_at s states lists) ≡ (list_ends s lists && free_listed s states lists)
unfolding list_ends free_listed valid_at
lines s states lists = every-both s.levels (ends_at s lists) (listed_at s states lists)

-- the tables of a shape, and the levels above this one are as validity says
pub record Reached (s : Shape) (states lists : List ℕ) (level from : ℕ) : Type 0 where
  pub shape : allowed s ≡ true
  pub states-long : length states ≡ blocks s
  pub lists-long : length lists ≡ s.levels + blocks s
  pub inside : level ≤ s.levels
  pub start : from ≡ above s level
  pub valid : every level (valid_at s states lists) ≡ true

-- a level's n blocks have their places in the tables
pub record Room (s : Shape) (states lists : List ℕ) (level from n : ℕ) : Type 0 where
  pub start : from ≡ above s level
  pub counted : n ≡ count s level
  pub inside : level < s.levels
  pub some : n ≤ most_count
  pub fits : from + n ≤ blocks s
  pub most : blocks s ≤ most_blocks
  pub levels : s.levels ≤ most_levels
  pub states-long : length states ≡ blocks s
  pub lists-long : length lists ≡ s.levels + blocks s

pub reached-none :
    (s : Shape) (states lists : List ℕ) →
    (allowed s ≡ true) × (length states ≡ blocks s) × (length lists ≡ s.levels + blocks s) → Reached s states lists 0 0
reached-none s states lists h =
    record {
      shape = h.0;
      states-long = h.1;
      lists-long = h.2;
      inside = omega arith;
      start = sym (above-none s);
      valid = every-none _;
    }

pub room :
    {s : Shape} {states lists : List ℕ} {level from n : ℕ} → Reached s states lists level from → level < s.levels →
    n ≡ count s level → Room s states lists level from n
unfolding blocks
room {s} {states} {lists} {level} {from} {n} r h e =
    let m = limits s r.shape in
    let q = count-range s level m h in
    record {
      start = r.start;
      counted = e;
      inside = h;
      some = omega arith;
      fits = omega (arith, r.start, above-next s level, above-up s (level + 1) s.levels (omega arith));
      most = blocks-most s m;
      levels = m.levels.1;
      states-long = r.states-long;
      lists-long = r.lists-long;
    }

-- the parts that one level is lent
pub one-level :
    {s : Shape} {states lists : List ℕ} {level from n : ℕ} → Room s states lists level from n →
    (length (cut states from (from + n)) ≤ most_count)
    × (length (cut lists (s.levels + from) (s.levels + (from + n))) ≡ length (cut states from (from + n)))
one-level {s} {states} {lists} {level} {from} {n} w =
    rw (gap from n, gap-behind s.levels from n, part-long states from n (omega arith), part-long lists (s.levels + from) n (omega arith))
    (w.some, refl)

-- what is said of the parts is said of the level
level-here :
    {s : Shape} {states lists : List ℕ} {level from n : ℕ} → Room s states lists level from n →
    level_valid (cut states from (from + n)) (cut lists (s.levels + from) (s.levels + (from + n))) (get_or lists level 0)
    ≡ valid_at s states lists level
unfolding valid_at free_list
level-here {s} {states} {lists} {level} {from} {n} w =
    rw (gap from n, gap-behind s.levels from n)
    (part-valid states lists n from (s.levels + from) (get_or lists level 0) (omega arith) (omega arith)
    ∙ rw (w.start, w.counted))

-- a level that is not as validity says
pub levels-fail :
    {s : Shape} {states lists : List ℕ} {level from n : ℕ} → Room s states lists level from n →
    level_valid (cut states from (from + n)) (cut lists (s.levels + from) (s.levels + (from + n))) (get_or lists level 0) ≡ false →
    false ≡ (list_ends s lists && free_listed s states lists)
levels-fail {s} {states} {lists} {level = level} w e =
    sym (every-not s.levels (valid_at s states lists) level w.inside (sym (level-here w) ∙ e)) ∙ lines s states lists

-- one level more is as validity says
pub levels-more :
    {s : Shape} {states lists : List ℕ} {level from n : ℕ} → Reached s states lists level from →
    Room s states lists level from n →
    level_valid (cut states from (from + n)) (cut lists (s.levels + from) (s.levels + (from + n))) (get_or lists level 0) ≡ true →
    Reached s states lists (level + 1) (from + n)
levels-more {s} {states} {lists} {level} {from} {n} r w e =
    record {
      shape = r.shape;
      states-long = r.states-long;
      lists-long = r.lists-long;
      inside = omega (arith, w.inside);
      start = omega (arith, w.start, w.counted, above-next s level);
      valid = every_more level (valid_at s states lists) ∙ both_of _ _ r.valid (sym (level-here w) ∙ e);
    }

-- all levels are
pub levels-end :
    {s : Shape} {states lists : List ℕ} {level from : ℕ} → Reached s states lists level from → s.levels ≤ level →
    true ≡ (list_ends s lists && free_listed s states lists)
levels-end {s} {states} {lists} {level = level} r h =
    let q : level ≡ s.levels = omega (arith, r.inside) in
    sym r.valid ∙ (ap (λ (n : ℕ). every n (valid_at s states lists)) q ∙ lines s states lists)
