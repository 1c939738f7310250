-- Cover names the one undivided existing block over a byte.
-- Assumes nothing.
use Rattle.std.specs.Prelude.{◌≡◌, refl, Bool, true, false, not, cond, ◌⊎◌, ◌↔◌, List, ℕ, zero, suc, ◌-◌, ◌/◌, ◌≤◌, ◌<◌, eqb}
use Rattle.std.proofs.Common.{sym, ◌∙◌, true≢false, inl, inr, eq-or-lt_of_le, le_of_suc-le-suc, arith}
use Rattle.std.proofs.Math.Arith.{le-zero}
use borrow.Author.Tests.{lt-ltb, eqb-false, ne_eqb, not-true}
use Rattle.laws.specs.Tests.{both}
use Rattle.shape.specs.declared.Shape.{Shape}
use Rattle.shape.specs.Limits.{allowed}
use Rattle.shape.specs.Blocks.{size, bytes}
use Rattle.shape.specs.Laws.{Limits, limits, size_top}
use Rattle.shape.specs.Offsets.{over-inside}
use Rattle.rules.specs.Numbers.{DIVIDED, NOEXIST}
use Rattle.rules.specs.Tables.{State, lengths, state_at}
use Rattle.rules.specs.Valid.{valid}
use Rattle.facts.specs.Verdict.{passes}
use Rattle.facts.specs.Lines.{valid-facts}
use Rattle.rules.specs.Questions.{undivided, cover_level, block_over, cover}
use Rattle.proved_bytes.specs.Tree.{Undivided, Over, covered, covered-once}
use Rattle.proved_bytes.specs.Tables.{state_in, state-inside, sizes_of, tree_of}
use Rattle.proved_bytes.specs.Cover.{CoverOne}

-- the test of a state, and what it says
undivided-says : (st : ℕ) → (undivided st ≡ true) ↔ Undivided st
undivided-says st = (
  λ e.
      let (d, n) = both (not (eqb st DIVIDED)) (not (eqb st NOEXIST)) e in
      (eqb-false _ _ (not-true _ d), eqb-false _ _ (not-true _ n)),
  λ (d, n). rw (ne_eqb _ _ d, ne_eqb _ _ n),
)

-- going upward from a level that is not above it, such a level is found
finds :
    (s : Shape) (states : List ℕ) (x l k : ℕ) → l ≤ k → k < s.levels → CoverOne s states x l →
    cover_level s states x k ≡ l
unfolding cover_level
finds s states x l zero h q c = sym (le-zero h)
finds s states x l (suc k) h q c =
    pick (undivided (state_at s states (suc k) (x / size s (suc k)))) refl (λ w. finds s states x l k w (omega arith) c)
    (eq-or-lt_of_le h)
  where
    pick :
        (b : Bool) → undivided (state_at s states (suc k) (x / size s (suc k))) ≡ b →
        (l ≤ k → cover_level s states x k ≡ l) → (l ≡ suc k) ⊎ (l < suc k) →
        cond b (suc k) (cover_level s states x k) ≡ l
    pick true e up w = c.once (suc k) q e
    pick false e up (inl w) = absurd (true≢false (sym (rw w at c.whole) ∙ e))
    pick false e up (inr w) = up (le_of_suc-le-suc w)

module _ (s : Shape) (T : State) (h : allowed s ≡ true) (v : valid s T ≡ true) where
  -- the level that is found from the deepest upward
  pub cover_one :
      (x : ℕ) → x < bytes s → CoverOne s T.pool.states x (cover_level s T.pool.states x (s.levels - 1))
  cover_one x k = go (covered (tree_of s T (valid-facts s T v)) (sizes_of s l) x l.levels.0 (rw (size_top s) k))
    where
      l : Limits s
      l = limits s h

      same : (m : ℕ) → m < s.levels → state_in s T.pool.states m (x / size s m) ≡ state_at s T.pool.states m (x / size s m)
      same m q = state-inside s T.pool.states m (x / size s m) (over-inside s m x l q k)

      go :
          Over s.levels (size s) (state_in s T.pool.states) x →
          CoverOne s T.pool.states x (cover_level s T.pool.states x (s.levels - 1))
      go (m, q, u) = rw (finds s T.pool.states x m (s.levels - 1) (omega arith) (omega arith) one) one
        where
          one : CoverOne s T.pool.states x m
          one =
              record {
                inside = q;
                whole = (undivided-says _).1 (rw (same m q) at u);
                once =
                    λ n i w.
                    covered-once (tree_of s T (valid-facts s T v)) (sizes_of s l) x n m i q
                    (rw (same n i) ((undivided-says _).0 w)) u;
              }

  -- cover answers that block, with its state
  pub cover-block :
      lengths s T ≡ true → (x : ℕ) → x < bytes s →
      (l : ℕ) × CoverOne s T.pool.states x l × (cover s T x ≡ block_over s T.pool.states x l)
  unfolding cover
  cover-block n x k = (
    cover_level s T.pool.states x (s.levels - 1),
    cover_one x k,
    rw (passes (record { shape = h; lengths = n; valid = v }), lt-ltb x (bytes s) k),
  )
