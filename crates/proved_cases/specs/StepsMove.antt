-- Each step moves blocks as the table of moves has it: what it needs to know of the states that it touches.
-- Assumes nothing.
use Rattle.std.specs.Prelude.{◌≡◌, refl, true, List, ◌∷◌, ℕ, zero, suc, ◌+◌, ◌*◌, ◌-◌, ◌≤◌, ◌<◌, length, get_or, set, replicate}
use Rattle.std.proofs.Common.{le-mul_of_pos_right, arith, get_or-set_other}
use Rattle.std.proofs.lemmas.List.{length-replicate, get_or-replicate}
use Rattle.std.proofs.lemmas.List.Edits.{sets}
use Rattle.laws.specs.Keep.{get_or-sets-other}
use Rattle.shape.specs.declared.Shape.{Shape}
use Rattle.shape.specs.Limits.{parts}
use Rattle.shape.specs.Blocks.{place}
use Rattle.shape.specs.Laws.{parts-pos, place-part}
use Rattle.rules.specs.Numbers.{FREE, DIVIDED, NOEXIST, FREEING, ALLOCATING}
use Rattle.rules.specs.Tables.{state_at}
use Rattle.rules.specs.Moves.{may_move}
use Rattle.proved_cases.specs.Moves.{Moves, moves-none, moves_set, moves-one, moves-sets}

-- a part stands behind its block in the tables
part-behind : (s : Shape) (l b j : ℕ) → 1 ≤ s.tops → place s l b < place s (l + 1) (parts s * b) + j
part-behind s l b j h =
    omega (arith, place-part s l b 0, le-mul_of_pos_right (place s l b) (parts-pos s))

-- split: the block was ALLOCATING, and its parts did not exist
pub split_moves :
    (s : Shape) (states : List ℕ) (l b : ℕ) → 1 ≤ s.tops → state_at s states l b ≡ ALLOCATING →
    ((j : ℕ) → j < parts s → state_at s states (l + 1) (parts s * b + j) ≡ NOEXIST) →
    Moves states
    (sets (set states (place s l b) DIVIDED) (place s (l + 1) (parts s * b)) (ALLOCATING ∷ replicate (parts s - 1) FREE))
split_moves s states l b h e n =
    moves-sets states (set states (place s l b) DIVIDED) (ALLOCATING ∷ replicate (parts s - 1) FREE)
    (place s (l + 1) (parts s * b))
    (moves-one states (place s l b) ALLOCATING DIVIDED e refl)
    (λ j k. (untouched j, made j k))
  where
    untouched :
        (j : ℕ) →
        get_or (set states (place s l b) DIVIDED) (place s (l + 1) (parts s * b) + j) 0
        ≡ get_or states (place s (l + 1) (parts s * b) + j) 0
    untouched j =
        get_or-set_other states (place s l b) (place s (l + 1) (parts s * b) + j) DIVIDED 0
        (omega (arith, part-behind s l b j h))

    none : (j : ℕ) → j < parts s → get_or states (place s (l + 1) (parts s * b) + j) 0 ≡ NOEXIST
    none j k =
        let q : place s (l + 1) (parts s * b) + j ≡ place s (l + 1) (parts s * b + j) = omega arith in
        rw q (n j k)

    made :
        (j : ℕ) → j < length (ALLOCATING ∷ replicate (parts s - 1) FREE) →
        may_move (get_or states (place s (l + 1) (parts s * b) + j) 0) (get_or (ALLOCATING ∷ replicate (parts s - 1) FREE) j 0) ≡ true
    made zero k = rw (none 0 (parts-pos s)) refl
    made (suc j) k =
        rw (none (suc j) (omega (arith, length-replicate (parts s - 1) FREE)), get_or-replicate (parts s - 1) j FREE 0 (omega (arith, length-replicate (parts s - 1) FREE))) refl

-- merge: the block was DIVIDED, and each part such as may leave
merge-below :
    (s : Shape) (states : List ℕ) (l b : ℕ) → 1 ≤ s.tops → state_at s states l b ≡ DIVIDED →
    ((j : ℕ) → j < parts s → may_move (state_at s states (l + 1) (parts s * b + j)) NOEXIST ≡ true) →
    Moves states
    (set (sets states (place s (l + 1) (parts s * b)) (replicate (parts s) NOEXIST)) (place s l b) FREEING)
merge-below s states l b h e n =
    moves_set states (sets states (place s (l + 1) (parts s * b)) (replicate (parts s) NOEXIST)) (place s l b) FREEING
    (moves-sets states states (replicate (parts s) NOEXIST) (place s (l + 1) (parts s * b)) (moves-none states)
    (λ j k. (refl, made j (omega (arith, length-replicate (parts s) NOEXIST)))))
    (get_or-sets-other states (replicate (parts s) NOEXIST) (place s (l + 1) (parts s * b)) (place s l b) 0
    (λ j k. omega (arith, part-behind s l b j h)))
    (rw e refl)
  where
    made :
        (j : ℕ) → j < parts s →
        may_move (get_or states (place s (l + 1) (parts s * b) + j) 0) (get_or (replicate (parts s) NOEXIST) j 0) ≡ true
    made j k =
        let q : place s (l + 1) (parts s * b) + j ≡ place s (l + 1) (parts s * b + j) = omega arith in
        rw (q, get_or-replicate (parts s) j NOEXIST 0 k) (n j k)

pub merge-moves :
    (s : Shape) (states : List ℕ) (l m b : ℕ) → m ≡ l + 1 → 1 ≤ s.tops → state_at s states l b ≡ DIVIDED →
    ((j : ℕ) → j < parts s → may_move (state_at s states m (parts s * b + j)) NOEXIST ≡ true) →
    Moves states (set (sets states (place s m (parts s * b)) (replicate (parts s) NOEXIST)) (place s l b) FREEING)
merge-moves s states l m b q h e n = rw q (merge-below s states l b h e (rw q at n))
