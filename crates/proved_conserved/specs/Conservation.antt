-- Conservation: bytes by state sum to the pool's bytes, in valid tables and so after every step of every history.
-- Assumes nothing.
use Rattle.std.specs.Prelude.{◌≡◌, true, cond, ℕ, zero, suc, ◌+◌, ◌≤◌, eqb}
use Rattle.std.proofs.lemmas.Bool.{false≢true}
use mathlib.Core.List.{List, [], ◌∷◌}
use native.Mathlib.Omega.{arith}
use Rattle.shape.specs.declared.Shape.{Shape}
use Rattle.shape.specs.Blocks.{size}
use Rattle.rules.specs.Numbers.{ALLOCATED, FREE, FREEING, ALLOCATING}
use Rattle.rules.specs.Tables.{state_at}
use Rattle.rules.specs.Questions.{undivided}
use Rattle.proved_conserved.specs.Pairs.{map_pairs}

-- how many bytes those blocks that have this state have together
unfoldable pub sizes_in : Shape → List ℕ → ℕ → List (ℕ × ℕ) → ℕ
sizes_in s states st [] = 0
sizes_in s states st (p ∷ rest) = cond (eqb (state_at s states p.0 p.1) st) (size s p.0) 0 + sizes_in s states st rest

-- how many bytes of the pool lie in undivided blocks of this state
unfoldable pub bytes_of : Shape → List ℕ → ℕ → ℕ
bytes_of s states st = sizes_in s states st (map_pairs s states)

-- the bytes of the four states that an undivided existing block can have
abbrev pub bytes_of_all : Shape → List ℕ → ℕ
bytes_of_all s states =
    bytes_of s states ALLOCATED + bytes_of s states FREE + bytes_of s states FREEING + bytes_of s states ALLOCATING

-- an undivided existing block has one of four states
pub four :
    (z st : ℕ) → st ≤ 5 → undivided st ≡ true →
    cond (eqb st ALLOCATED) z 0 + cond (eqb st FREE) z 0 + cond (eqb st FREEING) z 0 + cond (eqb st ALLOCATING) z 0 ≡ z
four z zero h u = omega arith
four z (suc zero) h u = omega arith
four z (suc (suc zero)) h u = absurd (false≢true u)
four z (suc (suc (suc zero))) h u = absurd (false≢true u)
four z (suc (suc (suc (suc zero)))) h u = omega arith
four z (suc (suc (suc (suc (suc zero))))) h u = omega arith
four z (suc (suc (suc (suc (suc (suc n)))))) h u = absurd (omega arith)
