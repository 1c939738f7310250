-- A look finds a level exactly where the target or a level above it has a FREE block.
-- Assumes nothing.
use Rattle.std.specs.Prelude.{Some, None, ◌≡◌, refl, Bool, true, false, cond, ◌⊎◌, ◌↔◌, List, ℕ, zero, suc, ◌+◌, ◌≤◌, ◌<◌, length, get_or, ltb}
use Rattle.std.proofs.Math.Path.{sym}
use Rattle.std.proofs.Common.{◌∙◌, inl, inr, eq-or-lt_of_le, le_of_suc-le-suc, arith}
use Rattle.std.proofs.Math.Arith.{le-zero}
use Rattle.std.proofs.Math.Dec.{eqb}
use borrow.Author.Tests.{ltb-true, ltb-false, lt-ltb, eqb-true, eq-eqb}
use Rattle.laws.specs.Tests.{bit, every, every-at, tally, both}
use Rattle.laws.specs.Lists.{times}
use Rattle.laws.specs.Sums.{members-counted, tally-some}
use Rattle.shape.specs.declared.Shape.{Shape}
use Rattle.shape.specs.Blocks.{count}
use Rattle.rules.specs.Numbers.{FREE}
use Rattle.rules.specs.Tables.{State, lengths, state_at, free_list}
use Rattle.rules.specs.Valid.{free_listed, valid}
use Rattle.facts.specs.Lines.{ValidFacts, valid-facts}
use Rattle.facts.specs.Lists.{length-free_list}
use Rattle.facts.specs.Given.{length-facts, list-short}
use Rattle.rules.specs.Steps.{deepest}
use Rattle.proved_bytes.specs.Bytes.{FreeBlock}

-- where a test passes somewhere, it passes at some number
tally-any : (n : ℕ) (f : ℕ → Bool) → 1 ≤ tally n f → (k : ℕ) × (k < n) × (f k ≡ true)
unfolding tally
tally-any zero f h = absurd (omega arith)
tally-any (suc n) f h = pick (f n) refl h (tally-any n f)
  where
    pick :
        (b : Bool) → f n ≡ b → 1 ≤ tally n f + bit b → (1 ≤ tally n f → (k : ℕ) × (k < n) × (f k ≡ true)) →
        (k : ℕ) × (k < suc n) × (f k ≡ true)
    pick true e m below = (n, omega arith, e)
    pick false e m below =
        let (k, q, g) = below (omega arith) in
        (k, omega arith, g)

-- a level that is found lies at the target or above, and its list has members
pub deepest-some : (lists : List ℕ) (k l : ℕ) → deepest lists k ≡ Some l → (l ≤ k) × (0 < get_or lists l 0)
unfolding deepest
deepest-some lists zero l e = pick (ltb 0 (get_or lists 0 0)) refl e
  where
    pick : (b : Bool) → ltb 0 (get_or lists 0 0) ≡ b → cond b (Some 0) None ≡ Some l → (l ≤ 0) × (0 < get_or lists l 0)
    pick true q e =
        let w : l ≡ 0 = cc in
        rw w (omega arith, ltb-true 0 (get_or lists 0 0) q)
    pick false q e = let w : ◌≡◌ {A = ℕ} 0 1 = cc in absurd (omega arith)
deepest-some lists (suc k) l e = pick (ltb 0 (get_or lists (suc k) 0)) refl e (deepest-some lists k l)
  where
    pick :
        (b : Bool) → ltb 0 (get_or lists (suc k) 0) ≡ b → cond b (Some (suc k)) (deepest lists k) ≡ Some l →
        (deepest lists k ≡ Some l → (l ≤ k) × (0 < get_or lists l 0)) → (l ≤ suc k) × (0 < get_or lists l 0)
    pick true q e up =
        let w : l ≡ suc k = cc in
        rw w (omega arith, ltb-true 0 (get_or lists (suc k) 0) q)
    pick false q e up =
        let (m, g) = up e in
        (omega arith, g)

-- and where a list at the target or above has members, a level is found
some-deepest :
    (lists : List ℕ) (k l : ℕ) → l ≤ k → 0 < get_or lists l 0 → (m : ℕ) × (deepest lists k ≡ Some m)
unfolding deepest
some-deepest lists zero l h q = (0, rw (lt-ltb 0 (get_or lists 0 0) (rw (le-zero h) at q)))
some-deepest lists (suc k) l h q =
    pick (ltb 0 (get_or lists (suc k) 0)) refl (eq-or-lt_of_le h) (λ w. some-deepest lists k l w q)
  where
    pick :
        (b : Bool) → ltb 0 (get_or lists (suc k) 0) ≡ b → (l ≡ suc k) ⊎ (l < suc k) →
        (l ≤ k → (m : ℕ) × (deepest lists k ≡ Some m)) →
        (m : ℕ) × (cond b (Some (suc k)) (deepest lists k) ≡ Some m)
    pick true e w up = (suc k, refl)
    pick false e (inl w) up = absurd (omega (arith, ltb-false 0 (get_or lists (suc k) 0) e, rw w at q))
    pick false e (inr w) up = up (le_of_suc-le-suc w)

module _ (s : Shape) (T : State) (n : lengths s T ≡ true) (v : valid s T ≡ true) where
  -- a level's list has as many members as the level has FREE blocks
  pub listed :
      (l : ℕ) → l < s.levels →
      get_or T.pool.lists l 0 ≡ tally (count s l) (λ b. eqb (state_at s T.pool.states l b) FREE)
  unfolding free_listed
  listed l h =
      sym (length-free_list s T.pool.lists l (length-facts s T n).lists h (list-short s T.pool.lists facts.pool.list_ends l h))
      ∙ members-counted (count s l) (λ b. eqb (state_at s T.pool.states l b) FREE) (free_list s T.pool.lists l) here.0
      (λ b q. eqb-true _ _ (every-at (count s l) _ here.1 b q))
    where
      facts : ValidFacts s T
      facts = valid-facts s T v

      here :
          (every (length (free_list s T.pool.lists l)) (λ i. ltb (get_or (free_list s T.pool.lists l) i 0) (count s l)) ≡ true)
          × (every (count s l) (λ b. eqb (times b (free_list s T.pool.lists l)) (bit (eqb (state_at s T.pool.states l b) FREE)))
          ≡ true)
      here = both _ _ (every-at s.levels _ facts.pool.free_listed l h)

  -- a look at level k finds a level exactly where that level or one above it has a FREE block
  pub found-room :
      (k : ℕ) → k < s.levels → ((l : ℕ) × (deepest T.pool.lists k ≡ Some l)) ↔ FreeBlock s T.pool.states k
  found-room k h = (λ (l, e). block l (deepest-some T.pool.lists k l e), λ (l, b, w, i, e). list l b w i e)
    where
      block : (l : ℕ) → (l ≤ k) × (0 < get_or T.pool.lists l 0) → FreeBlock s T.pool.states k
      block l (w, q) =
          let (b, i, e) = tally-any (count s l) (λ b. eqb (state_at s T.pool.states l b) FREE) (rw (← listed l (omega arith)) q) in
          (l, b, w, i, eqb-true _ _ e)

      list :
          (l b : ℕ) → l ≤ k → b < count s l → state_at s T.pool.states l b ≡ FREE → (m : ℕ) × (deepest T.pool.lists k ≡ Some m)
      list l b w i e =
          some-deepest T.pool.lists k l w
          (rw (listed l (omega arith))
          (tally-some (count s l) b (λ b. eqb (state_at s T.pool.states l b) FREE) i (eq-eqb _ _ e)))
