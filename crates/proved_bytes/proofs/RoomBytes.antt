-- Demand 3: a level has room exactly when a run of free bytes as long as its blocks starts at a multiple of that length; so where more bytes
-- are free a level that had room has room, and so has each deeper one.
-- Assumes nothing.
use Rattle.std.specs.Prelude.{◌≡◌, true, ◌↔◌, ℕ, ◌/◌, ◌≤◌, ◌<◌}
use Rattle.std.proofs.Common.{◌∙◌, lt_of_mul-lt-mul_right, mul-lt-mul_of_pos_right, arith}
use mathlib.Core.Logic.Iff
use Rattle.shape.specs.declared.Shape.{Shape}
use Rattle.shape.specs.Limits.{allowed}
use Rattle.shape.specs.Blocks.{size, count, offset, bytes}
use Rattle.shape.specs.Laws.{Limits, limits, size_top}
use Rattle.shape.specs.Offsets.{size-some, count-fills, over-inside}
use Rattle.rules.specs.Numbers.{FREE}
use Rattle.rules.specs.Tables.{State, state_at}
use Rattle.rules.specs.Valid.{valid}
use Rattle.facts.specs.Lines.{valid-facts}
use Rattle.proved_bytes.specs.Runs.{Free, free-inside}
use Rattle.proved_bytes.proofs.Runs.{free-block}
use Rattle.proved_bytes.proofs.Room.{room, room-freer}
use Rattle.proved_bytes.specs.Tables.{state_in, state-inside, state-known, sizes_of, tree_of}
use Rattle.proved_bytes.specs.Bytes.{FreeByte, FreeRun, FreeBlock, free-tree, tree_free, room-tree}
use Rattle.proved_bytes.proofs.Bytes.{run-tree}

-- a block of the shape starts in the pool
starts : (s : Shape) (k b : ℕ) → Limits s → k < s.levels → (b < count s k) ↔ (offset s k b < bytes s)
starts s k b h q =
    rw (← count-fills s k h q)
    (λ i. mul-lt-mul_of_pos_right i (size-some s k h q), lt_of_mul-lt-mul_right (size s k))

module _ (s : Shape) (T : State) (h : allowed s ≡ true) (v : valid s T ≡ true) where
  -- an aligned run is free exactly where a FREE block of its level or of one above lies over it
  pub run-bytes :
      (k b : ℕ) → k < s.levels → b < count s k →
      FreeRun s T.pool.states k b ↔ ((l : ℕ) × (l ≤ k) × (state_at s T.pool.states l (offset s k b / size s l) ≡ FREE))
  run-bytes k b q i =
      Iff.trans (run-tree s T.pool.states (limits s h) k b q i)
      (Iff.trans (free-block (tree_of s T (valid-facts s T v)) (sizes_of s (limits s h)) k b q) (
        λ (l, w, e). (l, w, (state-known s T.pool.states l _ (omega arith) e).1),
        λ (l, w, e). (l, w, state-inside s T.pool.states l _ (over l w) ∙ e),
      ))
    where
      over : (l : ℕ) → l ≤ k → offset s k b / size s l < count s l
      over l w = over-inside s l (offset s k b) (limits s h) (omega arith) ((starts s k b (limits s h) q).0 i)

  -- a level or one above it has a FREE block exactly where an aligned run of its length is free
  pub room-bytes :
      (k : ℕ) → k < s.levels →
      FreeBlock s T.pool.states k ↔ ((b : ℕ) × (b < count s k) × FreeRun s T.pool.states k b)
  room-bytes k q =
      Iff.trans (room-tree s T.pool.states (limits s h) k q)
      (Iff.trans (rw (size_top s) at (room (tree_of s T (valid-facts s T v)) (sizes_of s (limits s h)) k q)) (
        λ (b, w, r). let i = (starts s k b (limits s h) q).1 w in (b, i, (run-tree s T.pool.states (limits s h) k b q i).1 r),
        λ (b, i, r). (b, (starts s k b (limits s h) q).0 i, (run-tree s T.pool.states (limits s h) k b q i).0 r),
      ))

-- where each byte that is free in T is free in U, a level that has room in T has room in U, and so has each deeper one
pub room-more :
    (s : Shape) (T U : State) → allowed s ≡ true → valid s T ≡ true → valid s U ≡ true →
    ((y : ℕ) → y < bytes s → FreeByte s T.pool.states y → FreeByte s U.pool.states y) → (k m : ℕ) → k ≤ m → m < s.levels →
    FreeBlock s T.pool.states k → FreeBlock s U.pool.states m
room-more s T U h v w f k m q i r =
    (room-tree s U.pool.states l m i).1
    (room-freer (tree_of s T (valid-facts s T v)) (tree_of s U (valid-facts s U w)) (sizes_of s l) freer k m q i
    ((room-tree s T.pool.states l k (omega arith)).0 r))
  where
    l : Limits s
    l = limits s h

    freer :
        (y : ℕ) → Free s.levels (size s) (state_in s T.pool.states) y → Free s.levels (size s) (state_in s U.pool.states) y
    freer y e =
        let n = rw (size_top s) at (free-inside (tree_of s T (valid-facts s T v)) (sizes_of s l) y e) in
        tree_free s U.pool.states l y n (f y n (free-tree s T.pool.states l y e))
