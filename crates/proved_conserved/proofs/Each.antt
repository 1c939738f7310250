-- Map lists each undivided existing block once: a block's first byte lies in one that is listed, and only one such block lies over it.
-- Assumes nothing.
use Rattle.std.specs.Prelude.{◌≡◌, refl, true, List, [], ◌∷◌, ◌++◌, ℕ, ◌+◌, ◌-◌, ◌/◌, ◌≤◌, ◌<◌}
use Rattle.std.proofs.Common.{sym, ◌∙◌, ap, append_assoc, mul-le-mul_right, arith}
use Rattle.std.proofs.Math.Decide.{dec_lt}
use Rattle.shape.specs.declared.Shape.{Shape}
use Rattle.shape.specs.Limits.{allowed}
use Rattle.shape.specs.Blocks.{size, count, offset, bytes}
use Rattle.shape.specs.Laws.{limits}
use Rattle.shape.specs.Offsets.{size-some, count-fills}
use Rattle.rules.specs.Tables.{State}
use Rattle.rules.specs.Valid.{valid}
use Rattle.rules.specs.Questions.{cover_level}
use Rattle.proved_bytes.specs.Bytes.{lies_in}
use Rattle.proved_bytes.specs.Cover.{CoverOne}
use Rattle.proved_bytes.proofs.Cover.{cover_one}
use Rattle.proved_conserved.specs.Pairs.{map_pairs}
use Rattle.proved_conserved.specs.Partition.{Standing, sizes, Follow, Among}
use Rattle.proved_conserved.proofs.Partition.{map-follows, map-standing, map-begins}
use Rattle.proved_conserved.specs.Each.{Listed}

sizes-join : (s : Shape) (xs ys : List (ℕ × ℕ)) → sizes s (xs ++ ys) ≡ sizes s xs + sizes s ys
unfolding sizes
sizes-join s [] ys = omega arith
sizes-join s (x ∷ xs) ys = omega (arith, sizes-join s xs ys)

sizes-first : (s : Shape) (l b : ℕ) (ps : List (ℕ × ℕ)) → sizes s ((l, b) ∷ ps) ≡ size s l + sizes s ps
unfolding sizes
sizes-first s l b ps = refl

-- over each byte from the first to the last lies a block of the list
follow-over :
    (s : Shape) (states : List ℕ) (a c x : ℕ) (ps : List (ℕ × ℕ)) → Follow s states a ps c → a ≤ x → x < c →
    (l : ℕ) × (b : ℕ) × Listed ps l b × (offset s l b ≤ x) × (x < offset s l (b + 1))
unfolding Follow
follow-over s states a c x [] f h k = absurd (omega arith)
follow-over s states a c x (p ∷ ps) (w, e, f) h k =
    go (follow-over s states (a + size s p.0) c x ps f) (dec_lt x (a + size s p.0))
  where
    go :
        (a + size s p.0 ≤ x → x < c →
        (l : ℕ) × (b : ℕ) × Listed ps l b × (offset s l b ≤ x) × (x < offset s l (b + 1))) →
        Dec (x < a + size s p.0) →
        (l : ℕ) × (b : ℕ) × Listed (p ∷ ps) l b × (offset s l b ≤ x) × (x < offset s l (b + 1))
    go later (yes d) =
        (p.0, p.1, record { before = []; behind = ps; among = refl }, omega arith, omega arith)
    go later (no d) =
        let (l, b, i, m, n) = later (omega arith) k in (
          l,
          b,
          record {
            before = p ∷ i.before;
            behind = i.behind;
            among = ap (λ (r : List (ℕ × ℕ)). p ∷ r) i.among;
          },
          m,
          n,
        )

module _ (s : Shape) (T : State) (a : allowed s ≡ true) (v : valid s T ≡ true) where
  -- an undivided existing block of the shape is listed
  pub map-all : (l b : ℕ) → Standing s T.pool.states l b → Listed (map_pairs s T.pool.states) l b
  map-all l b w = go (follow-over s T.pool.states 0 (bytes s) (offset s l b) _ (map-follows s T a v) (omega arith) inside)
    where
      some : 1 ≤ size s l
      some = size-some s l (limits s a) w.level

      inside : offset s l b < bytes s
      inside =
          omega (
            arith,
            some,
            count-fills s l (limits s a) w.level,
            mul-le-mul_right {m = b + 1} {n = count s l} (size s l) (omega (arith, w.block)),
          )

      one : CoverOne s T.pool.states (offset s l b) (cover_level s T.pool.states (offset s l b) (s.levels - 1))
      one = cover_one s T a v (offset s l b) inside

      here : offset s l b / size s l ≡ b
      here = (lies_in s l b (offset s l b) some).1 (omega arith, omega (arith, some))

      go :
          (m : ℕ) × (c : ℕ) × Listed (map_pairs s T.pool.states) m c × (offset s m c ≤ offset s l b)
          × (offset s l b < offset s m (c + 1)) →
          Listed (map_pairs s T.pool.states) l b
      go (m, c, i, f, t) = rw (level, block) at i
        where
          stands : Standing s T.pool.states m c
          stands = map-standing s T a v m c i.before i.behind i.among

          over : offset s l b / size s m ≡ c
          over = (lies_in s m c (offset s l b) (size-some s m (limits s a) stands.level)).1 (f, t)

          level : m ≡ l
          level =
              one.once m stands.level (rw over stands.whole)
              ∙ sym (one.once l w.level (rw here w.whole))

          block : c ≡ b
          block = sym over ∙ ap (λ (n : ℕ). offset s l b / size s n) level ∙ here

  -- and not again behind itself
  pub map-once :
      (l b : ℕ) (before behind : List (ℕ × ℕ)) → Among (map_pairs s T.pool.states) before l b behind → Listed behind l b → ⊥
  map-once l b before behind e i =
      omega (
        arith,
        size-some s l (limits s a) (map-standing s T a v l b before behind e).level,
        map-begins s T a v l b before behind e,
        map-begins s T a v l b (before ++ ((l, b) ∷ i.before)) i.behind again,
        sizes-join s before ((l, b) ∷ i.before),
        sizes-first s l b i.before,
      )
    where
      again : Among (map_pairs s T.pool.states) (before ++ ((l, b) ∷ i.before)) l b i.behind
      again =
          e
          ∙ ap (λ (r : List (ℕ × ℕ)). before ++ ((l, b) ∷ r)) i.among
          ∙ sym (append_assoc before ((l, b) ∷ i.before) ((l, b) ∷ i.behind))
