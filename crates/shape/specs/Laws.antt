-- What follows from a shape's definitions, for every number of parts: the crates above lean on these and not on the definitions' text.
-- Assumes nothing.
use Rattle.std.specs.Prelude.{◌≡◌, refl, Bool, true, false, cond, ◌⊎◌, ℕ, zero, suc, ◌+◌, ◌*◌, ◌-◌, ◌%◌, ◌^◌, ◌≤◌, ◌<◌, leb}
use Rattle.std.proofs.Common.{sym, ap, inl, inr, pow-suc, div-one, div-le_self, eq-or-lt_of_le, le_of_suc-le-suc, mul-le-mul, add-one, arith, leb-true, eqb-true}
use Rattle.std.proofs.Math.Nat.{pow-zero, pow-le-pow_right}
use Rattle.std.proofs.Math.Decide.{dec_lt}
use Rattle.std.proofs.Math.Arith.{le-zero}
use Rattle.laws.specs.Tests.{both}
use Rattle.shape.specs.declared.Shape.{Shape}
use Rattle.shape.specs.Limits.{parts, most_count, unit, allowed, most_pool, most_top_size, most_levels, most_blocks, most_tops, most_threads}
use Rattle.shape.specs.Blocks.{size, count, level_from, level_for, above, place, blocks}

-- what an allowed shape's numbers are
pub record Limits (s : Shape) : Type 0 where
  pub pool : s.pool ≤ most_pool
  pub threads : (1 ≤ s.threads) × (s.threads ≤ most_threads)
  pub levels : (1 ≤ s.levels) × (s.levels ≤ most_levels)
  pub tops : (1 ≤ s.tops) × (s.tops ≤ most_tops)
  pub top : (1 ≤ s.top_size) × (s.top_size ≤ most_top_size)
  pub multiple : s.top_size % unit s ≡ 0

pub limits : (s : Shape) → allowed s ≡ true → Limits s
unfolding allowed
limits s e =
    let f1 = both _ _ e in
    let f2 = both _ _ f1.0 in
    let f3 = both _ _ f2.0 in
    let f4 = both _ _ f3.0 in
    let f5 = both _ _ f4.0 in
    let thr = both _ _ f5.1 in
    let lev = both _ _ f4.1 in
    let top = both _ _ f3.1 in
    let siz = both _ _ f2.1 in
    record {
      pool = leb-true _ _ f5.0;
      threads = (leb-true _ _ thr.0, leb-true _ _ thr.1);
      levels = (leb-true _ _ lev.0, leb-true _ _ lev.1);
      tops = (leb-true _ _ top.0, leb-true _ _ top.1);
      top = (leb-true _ _ siz.0, leb-true _ _ siz.1);
      multiple = eqb-true _ _ f1.1;
    }

pub parts-pos : (s : Shape) → 0 < parts s
unfolding parts
parts-pos s = omega arith

-- a level has as many blocks as the one above it has parts
pub count_next : (s : Shape) (l : ℕ) → count s (l + 1) ≡ parts s * count s l
unfolding count
count_next s l = rw (add-one, pow-suc) (omega arith)

pub above-none : (s : Shape) → above s 0 ≡ 0
unfolding above
above-none s = refl

pub above-next : (s : Shape) (l : ℕ) → above s (l + 1) ≡ above s l + count s l
unfolding above
above-next s l = rw add-one

pub above-up : (s : Shape) (l m : ℕ) → l ≤ m → above s l ≤ above s m
above-up s l zero h = rw (le-zero h) (omega arith)
above-up s l (suc m) h = go (above-up s l m) (eq-or-lt_of_le h)
  where
    go : (l ≤ m → above s l ≤ above s m) → (l ≡ suc m) ⊎ (l < suc m) → above s l ≤ above s (suc m)
    go below (inl e) = rw e (omega arith)
    go below (inr k) = rw (← add-one m, above-next) (omega (arith, below (le_of_suc-le-suc k)))

pub count-top : (s : Shape) → count s 0 ≡ s.tops
unfolding count
count-top s = rw pow-zero (omega arith)

-- the blocks above the next level: the top blocks, and the parts of all blocks above this one
pub above-parts : (s : Shape) (l : ℕ) → above s (l + 1) ≡ s.tops + parts s * above s l
above-parts s zero = omega (arith, above-next s 0, above-none s, count-top s, ap (λ (n : ℕ). parts s * n) (above-none s))
above-parts s (suc l) = rw (← add-one) (go (above-parts s l))
  where
    go : above s (l + 1) ≡ s.tops + parts s * above s l → above s (l + 1 + 1) ≡ s.tops + parts s * above s (l + 1)
    go e = omega (arith, above-next s (l + 1), count_next s l, ap (λ (n : ℕ). parts s * n) (above-next s l))

-- part j of block b stands behind the top blocks and the parts of all blocks before it
pub place-part : (s : Shape) (l b j : ℕ) → place s (l + 1) (parts s * b + j) ≡ s.tops + parts s * place s l b + j
place-part s l b j = rw above-parts (omega arith)

-- a block of the shape has a place in the tables
pub place_inside : (s : Shape) (l b : ℕ) → l < s.levels → b < count s l → place s l b < blocks s
unfolding blocks
place_inside s l b h k = omega (arith, above-next s l, above-up s (l + 1) s.levels (omega arith))

-- and no other block has that place
pub place-once : (s : Shape) (l b m c : ℕ) → b < count s l → c < count s m → place s l b ≡ place s m c → (l ≡ m) × (b ≡ c)
place-once s l b m c h k e = go (dec_lt l m) (dec_lt m l)
  where
    apart : (l b m c : ℕ) → b < count s l → above s l + b ≡ above s m + c → l < m → ⊥
    apart l b m c h e k = omega (arith, above-next s l, above-up s (l + 1) m (omega arith))

    go : Dec (l < m) → Dec (m < l) → (l ≡ m) × (b ≡ c)
    go (yes d) w = absurd (apart l b m c h e d)
    go (no d) (yes w) = absurd (apart m c l b k (sym e) w)
    go (no d) (no w) = let q : l ≡ m = omega arith in (q, omega (arith, ap (above s) q))

level_from-most : (s : Shape) (request l : ℕ) → level_from s l request ≤ l
unfolding level_from
level_from-most s request zero = omega arith
level_from-most s request (suc l) = pick (leb request (size s (suc l))) (level_from-most s request l)
  where
    pick : (b : Bool) → level_from s l request ≤ l → cond b (suc l) (level_from s l request) ≤ suc l
    pick true k = omega arith
    pick false k = omega arith

pub level_for-inside : (s : Shape) (request : ℕ) → 1 ≤ s.levels → level_for s request < s.levels
unfolding level_for
level_for-inside s request h = omega (arith, level_from-most s request (s.levels - 1))

pub size_top : (s : Shape) → size s 0 ≡ s.top_size
unfolding size
size_top s = rw (pow-zero, div-one)

level_from-fits : (s : Shape) (request l : ℕ) → request ≤ s.top_size → request ≤ size s (level_from s l request)
unfolding level_from
level_from-fits s request zero h = rw size_top h
level_from-fits s request (suc l) h = pick (leb request (size s (suc l))) refl (level_from-fits s request l h)
  where
    pick :
        (b : Bool) → leb request (size s (suc l)) ≡ b → request ≤ size s (level_from s l request) →
        request ≤ size s (cond b (suc l) (level_from s l request))
    pick true e k = leb-true _ _ e
    pick false e k = k

-- the level found is deep enough for the request
pub level_for-fits : (s : Shape) (request : ℕ) → request ≤ s.top_size → request ≤ size s (level_for s request)
unfolding level_for
level_for-fits s request h = level_from-fits s request (s.levels - 1) h

-- a level has at least one block, and the deepest of five levels has the most
pub count-range : (s : Shape) (l : ℕ) → Limits s → l < s.levels → (1 ≤ count s l) × (count s l ≤ most_count)
unfolding count parts
count-range s l h k = (
  mul-le-mul h.tops.0 (pow-le-pow_right {n = 4} (omega arith) {i = 0} {j = l} (omega arith)),
  mul-le-mul h.tops.1 (pow-le-pow_right {n = 4} (omega arith) {i = l} {j = 4} (omega arith)),
)

-- five levels of sixteen top blocks at the most
pub blocks-most : (s : Shape) → Limits s → blocks s ≤ most_blocks
unfolding blocks above count parts
blocks-most s h = omega (arith, above-up s s.levels 5 h.levels.1)

pub above_most : (s : Shape) (l : ℕ) → Limits s → l ≤ s.levels → above s l ≤ most_blocks
unfolding blocks
above_most s l h k = omega (arith, blocks-most s h, above-up s l s.levels k)

pub blocks-some : (s : Shape) → Limits s → 1 ≤ blocks s
unfolding blocks
blocks-some s h = omega (arith, above-up s (0 + 1) s.levels h.levels.0, above-next s 0, count-top s, h.tops.0)

pub size-most : (s : Shape) (l : ℕ) → Limits s → size s l ≤ most_top_size
unfolding size
size-most s l h = omega (arith, div-le_self s.top_size (parts s ^ l), h.top)

-- the bounds on blocks are those of the largest shape
pub largest :
    (s : Shape) → s.levels ≡ most_levels → s.tops ≡ most_tops →
    (count s (most_levels - 1) ≡ most_count) × (blocks s ≡ most_blocks)
unfolding blocks above count parts
largest s l t = (rw t refl, rw (l, t) refl)

-- for quarters the top size is a multiple of 4^levels, as the paper says
pub unit-quarters : (s : Shape) → parts s ≡ 4 → 1 ≤ s.levels → unit s ≡ 4 ^ s.levels
unfolding unit
unit-quarters s p h = rw p (go s.levels h)
  where
    go : (l : ℕ) → 1 ≤ l → 4 * 4 ^ (l - 1) ≡ 4 ^ l
    go zero h = absurd (omega arith)
    go (suc l) h = let e : suc l - 1 ≡ l = omega arith in rw (e, pow-suc) (omega arith)
