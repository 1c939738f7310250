-- Document 01, 'Six states and their moves': a table of states moves where each place keeps its state or makes a move that happens.
-- Assumes nothing.
use Rattle.std.specs.Prelude.{◌≡◌, refl, true, ◌⊎◌, List, [], ◌∷◌, ℕ, suc, ◌+◌, ◌<◌, length, get_or, set}
use Rattle.std.proofs.Common.{◌∙◌, inl, inr, add-zero, arith, length-set, get_or-set_same, get_or-set_other}
use Rattle.std.proofs.Math.Decide.{dec_lt, ℕ_discrete}
use Rattle.std.proofs.lemmas.List.Edits.{sets}
use Rattle.std.proofs.Math.Seq.{set_out}
use Rattle.rules.specs.Moves.{may_move}

pub record Moves (before after : List ℕ) : Type 0 where
  pub long : length after ≡ length before
  pub move : (k : ℕ) → (get_or after k 0 ≡ get_or before k 0) ⊎ (may_move (get_or before k 0) (get_or after k 0) ≡ true)

pub moves-none : (xs : List ℕ) → Moves xs xs
moves-none xs = record { long = refl; move = λ k. inl refl }

-- one place more makes its move
pub moves_set :
    (xs ys : List ℕ) (i v : ℕ) → Moves xs ys → get_or ys i 0 ≡ get_or xs i 0 → may_move (get_or xs i 0) v ≡ true →
    Moves xs (set ys i v)
moves_set xs ys i v m e q =
    record { long = length-set ys i v ∙ m.long; move = λ k. at k (ℕ_discrete k i) (dec_lt i (length ys)) }
  where
    at :
        (k : ℕ) → Dec (k ≡ i) → Dec (i < length ys) →
        (get_or (set ys i v) k 0 ≡ get_or xs k 0) ⊎ (may_move (get_or xs k 0) (get_or (set ys i v) k 0) ≡ true)
    at k (yes p) (yes h) = inr (rw (p, get_or-set_same ys i v 0 h) q)
    at k (yes p) (no h) = rw (set_out ys i v (omega arith)) (m.move k)
    at k (no p) h = rw (get_or-set_other ys i k v 0 p) (m.move k)

pub moves-one : (xs : List ℕ) (i a v : ℕ) → get_or xs i 0 ≡ a → may_move a v ≡ true → Moves xs (set xs i v)
moves-one xs i a v e q = moves_set xs xs i v (moves-none xs) refl (rw e q)

-- a run of places makes its moves
pub moves-sets :
    (xs ys vs : List ℕ) (i : ℕ) → Moves xs ys →
    ((j : ℕ) → j < length vs → (get_or ys (i + j) 0 ≡ get_or xs (i + j) 0) × (may_move (get_or xs (i + j) 0) (get_or vs j 0) ≡ true)) →
    Moves xs (sets ys i vs)
moves-sets xs ys [] i m h = m
moves-sets xs ys (v ∷ vs) i m h =
    moves-sets xs (set ys i v) vs (suc i) (moves_set xs ys i v m here.0 here.1) (λ j l. behind j l)
  where
    here : (get_or ys i 0 ≡ get_or xs i 0) × (may_move (get_or xs i 0) v ≡ true)
    here = rw add-zero at (h 0 (omega arith))

    behind :
        (j : ℕ) → j < length vs →
        (get_or (set ys i v) (suc i + j) 0 ≡ get_or xs (suc i + j) 0) × (may_move (get_or xs (suc i + j) 0) (get_or vs j 0) ≡ true)
    behind j l =
        let e : suc i + j ≡ i + suc j = omega arith in
        let n = h (suc j) (omega arith) in
        (get_or-set_other ys i (suc i + j) v 0 (omega arith) ∙ rw e n.0, rw e n.1)
