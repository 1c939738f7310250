-- Map's blocks divide the pool: each is an undivided existing block, each begins where the last ended, and the last ends where the pool does.
-- Assumes nothing.
use Rattle.std.specs.Prelude.{◌≡◌, Bool, true, false, cond, ◌≢◌, eqb}
use Rattle.std.proofs.Math.Path.{refl}
use mathlib.Core.List.{List, [], ◌∷◌, ◌++◌}
use Prim.Native.Nat.{ℕ, zero, suc, ◌+◌, ◌*◌, ◌-◌, ◌<◌}
use Rattle.std.proofs.Common.{add-one, eqb-true, ne_eqb}
use native.Mathlib.Omega.{arith}
use Rattle.laws.specs.Changes.{part_of}
use Rattle.shape.specs.declared.Shape.{Shape}
use Rattle.shape.specs.Limits.{parts, allowed}
use Rattle.shape.specs.Blocks.{size, count, offset, bytes}
use Rattle.shape.specs.Laws.{limits, size_top, count-top}
use Rattle.shape.specs.Sections.{part-inside}
use Rattle.rules.specs.Numbers.{DIVIDED, NOEXIST}
use Rattle.rules.specs.Tables.{State, state_at}
use Rattle.rules.specs.Valid.{valid}
use Rattle.facts.specs.Lines.{valid-facts}
use Rattle.rules.specs.Questions.{undivided}
use Rattle.proved_bytes.specs.Tree.{Tree, Sizes}
use Rattle.proved_bytes.specs.Tables.{state_in, state-inside, sizes_of, tree_of}
use Rattle.proved_conserved.specs.Pairs.{pairs_from, block_pairs, map_pairs}
use Rattle.proved_conserved.specs.Partition.{Standing, sizes, Follow, Among}

module _ (s : Shape) (states : List ℕ) where
  follow-join :
      (a c d : ℕ) (xs ys : List (ℕ × ℕ)) → Follow s states a xs c → Follow s states c ys d → Follow s states a (xs ++ ys) d
  unfolding Follow
  follow-join a c d [] ys f g = rw f g
  follow-join a c d (x ∷ xs) ys (w, e, f) g = (w, e, follow-join (a + size s x.0) c d xs ys f g)

  -- one block
  follow_one : (l b : ℕ) → Standing s states l b → Follow s states (offset s l b) ((l, b) ∷ []) (offset s l (b + 1))
  unfolding Follow
  follow_one l b w = (w, refl, omega arith)

  -- blocks of one level, where each does
  follow-from :
      (z : ℕ) (f : ℕ → List (ℕ × ℕ)) (b n : ℕ) →
      ((j : ℕ) → j < n → Follow s states ((b + j) * z) (f (b + j)) ((b + j + 1) * z)) →
      Follow s states (b * z) (pairs_from f b n) ((b + n) * z)
  unfolding Follow pairs_from
  follow-from z f b zero h = omega arith
  follow-from z f b (suc n) h =
      follow-join (b * z) ((b + 1) * z) ((b + suc n) * z) (f b) (pairs_from f (b + 1) n) first
      (rw step at (follow-from z f (b + 1) n behind))
    where
      none : b + 0 ≡ b
      none = omega arith

      step : b + 1 + n ≡ b + suc n
      step = omega arith

      first : Follow s states (b * z) (f b) ((b + 1) * z)
      first = rw none at (h 0 (omega arith))

      behind : (j : ℕ) → j < n → Follow s states ((b + 1 + j) * z) (f (b + 1 + j)) ((b + 1 + j + 1) * z)
      behind j k =
          let e : b + suc j ≡ b + 1 + j = omega arith in
          rw e at (h (suc j) (omega arith))

module _ (s : Shape) (T : State) (a : allowed s ≡ true) (v : valid s T ≡ true) where
  tree : Tree (parts s) s.levels s.tops (state_in s T.pool.states)
  tree = tree_of s T (valid-facts s T v)

  together : Sizes (parts s) s.levels (size s)
  together = sizes_of s (limits s a)

  -- a block that exists is listed as undivided blocks from its first byte to its last
  follow-block :
      (depth l b : ℕ) → suc (l + depth) ≡ s.levels → b < count s l → state_at s T.pool.states l b ≢ NOEXIST →
      Follow s T.pool.states (offset s l b) (block_pairs s T.pool.states depth l b) (offset s l (b + 1))
  unfolding block_pairs
  follow-block zero l b h k e = follow_one s T.pool.states l b (record { level = omega arith; block = k; whole = whole })
    where
      deep : state_at s T.pool.states l b ≢ DIVIDED
      deep = rw (state-inside s T.pool.states l b k) at (tree.deep l b (omega arith))

      whole : undivided (state_at s T.pool.states l b) ≡ true
      whole = rw (ne_eqb _ _ deep, ne_eqb _ _ e)
  follow-block (suc depth) l b h k e =
      pick (eqb (state_at s T.pool.states l b) DIVIDED) refl (λ c. follow-block depth (l + 1) c (omega arith))
    where
      pick :
          (d : Bool) → eqb (state_at s T.pool.states l b) DIVIDED ≡ d →
          ((c : ℕ) → c < count s (l + 1) → state_at s T.pool.states (l + 1) c ≢ NOEXIST →
          Follow s T.pool.states (offset s (l + 1) c) (block_pairs s T.pool.states depth (l + 1) c) (offset s (l + 1) (c + 1))) →
          Follow s T.pool.states (offset s l b)
          (cond d (pairs_from (block_pairs s T.pool.states depth (l + 1)) (parts s * b) (parts s)) ((l, b) ∷ []))
          (offset s l (b + 1))
      pick false q down =
          follow_one s T.pool.states l b
          (record { level = omega arith; block = k; whole = rw (q, ne_eqb _ _ e) })
      pick true q down =
          rw (starts, ends) at
          (follow-from s T.pool.states (size s (l + 1)) (block_pairs s T.pool.states depth (l + 1)) (parts s * b) (parts s) (λ j i.
          down (parts s * b + j) (part-inside s l b j k i) (there j i)))
        where
          longer : size s l ≡ size s (l + 1) * parts s
          longer = rw (add-one l) (together.parts l (omega arith))

          starts : parts s * b * size s (l + 1) ≡ offset s l b
          starts = rw longer (omega arith)

          ends : (parts s * b + parts s) * size s (l + 1) ≡ offset s l (b + 1)
          ends = rw longer (omega arith)

          there : (j : ℕ) → j < parts s → state_at s T.pool.states (l + 1) (parts s * b + j) ≢ NOEXIST
          there j i =
              rw (← add-one l, state-inside s T.pool.states (l + 1) (parts s * b + j) (part-inside s l b j k i)) at
              ((tree.kids l (parts s * b + j) (omega arith)).1
              (rw (part_of (parts s) b j i, state-inside s T.pool.states l b k) (eqb-true _ _ q)))

  -- all that map lists, from the pool's first byte to its last
  pub map-follows : Follow s T.pool.states 0 (map_pairs s T.pool.states) (bytes s)
  unfolding map_pairs
  map-follows =
      rw (size_top s, first, all) at
      (follow-from s T.pool.states (size s 0) (block_pairs s T.pool.states (s.levels - 1) 0) 0 s.tops (λ j i.
      follow-block (s.levels - 1) 0 (0 + j) deepest (inside j i) (there j i)))
    where
      first : 0 * s.top_size ≡ 0
      first = omega arith

      all : 0 + s.tops ≡ s.tops
      all = omega arith

      deepest : suc (0 + (s.levels - 1)) ≡ s.levels
      deepest = omega (arith, (limits s a).levels.0)

      inside : (j : ℕ) → j < s.tops → 0 + j < count s 0
      inside j i = omega (arith, count-top s)

      there : (j : ℕ) → j < s.tops → state_at s T.pool.states 0 (0 + j) ≢ NOEXIST
      there j i = rw (state-inside s T.pool.states 0 (0 + j) (inside j i)) at ((tree.top (0 + j)).0 (omega arith))

module _ (s : Shape) (states : List ℕ) where
  follow-ends : (a c : ℕ) (ps : List (ℕ × ℕ)) → Follow s states a ps c → a + sizes s ps ≡ c
  unfolding Follow sizes
  follow-ends a c [] f = omega arith
  follow-ends a c (p ∷ ps) (w, e, f) = omega (arith, follow-ends (a + size s p.0) c ps f)

  follow-at :
      (a c l b : ℕ) (before behind : List (ℕ × ℕ)) → Follow s states a (before ++ ((l, b) ∷ behind)) c →
      Standing s states l b × (a + sizes s before ≡ offset s l b)
  unfolding Follow sizes
  follow-at a c l b [] behind (w, e, f) = (w, omega arith)
  follow-at a c l b (p ∷ before) behind (w, e, f) =
      let (g, q) = follow-at (a + size s p.0) c l b before behind f in
      (g, omega arith)

module _ (s : Shape) (T : State) (a : allowed s ≡ true) (v : valid s T ≡ true) where
  -- each block that map lists is an undivided existing block of the shape
  pub map-standing :
      (l b : ℕ) (before behind : List (ℕ × ℕ)) → Among (map_pairs s T.pool.states) before l b behind →
      Standing s T.pool.states l b
  map-standing l b before behind e =
      (follow-at s T.pool.states 0 (bytes s) l b before behind (rw e at (map-follows s T a v))).0

  -- and begins where those before it end
  pub map-begins :
      (l b : ℕ) (before behind : List (ℕ × ℕ)) → Among (map_pairs s T.pool.states) before l b behind →
      sizes s before ≡ offset s l b
  map-begins l b before behind e =
      omega (arith, (follow-at s T.pool.states 0 (bytes s) l b before behind (rw e at (map-follows s T a v))).1)

  -- together they have the pool's bytes
  pub map-bytes : sizes s (map_pairs s T.pool.states) ≡ bytes s
  map-bytes = omega (arith, follow-ends s T.pool.states 0 (bytes s) (map_pairs s T.pool.states) (map-follows s T a v))
