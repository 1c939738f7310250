-- Document 01, 'Calls and steps': the three questions. None alters a table; map writes its lent row.
-- Assumes nothing.
use Rattle.std.specs.Prelude.{Ok, Err, Result, Bool, not, cond, ◌&&◌, List, [], ◌∷◌, ◌++◌, ℕ, zero, suc, ◌+◌, ◌*◌, ◌-◌, ◌/◌, length, ltb, eqb}
use Rattle.std.proofs.lemmas.List.Edits.{sets}
use Rattle.laws.specs.Tests.{every}
use Rattle.shape.specs.declared.Shape.{Shape}
use Rattle.shape.specs.Limits.{parts}
use Rattle.shape.specs.Blocks.{size, id, bytes}
use Rattle.rules.specs.declared.Refusal.TheVariants.{OffsetOutside, RowTooShort}
use Rattle.rules.specs.declared.Answer.TheVariants.{Whole, NotWhole}
use Rattle.rules.specs.declared.Covered.{Covered}
use Rattle.rules.specs.Numbers.{FREE, DIVIDED, NOEXIST, CLOSED}
use Rattle.rules.specs.Tables.{State, state_at, call_of}
use Rattle.rules.specs.Refusals.{checked}
use Rattle.rules.specs.declared.Refusal.{Refusal}
use Rattle.rules.specs.Answers.{Answered}

-- whole: every top block is FREE, and no thread has a call open
unfoldable pub is_whole : Shape → State → Bool
is_whole s T =
    every s.tops (λ b. eqb (state_at s T.pool.states 0 b) FREE)
    && every s.threads (λ t. eqb (call_of T.threads.calls t).stage CLOSED)

unfoldable pub whole : Shape → State → Answered
whole s T = checked Err s T (cond (is_whole s T) (Ok Whole) (Ok NotWhole))

-- a block that exists and is not divided
abbrev pub undivided : ℕ → Bool
undivided st = not (eqb st DIVIDED) && not (eqb st NOEXIST)

-- the deepest level from l upward whose block over the offset is undivided
unfoldable pub cover_level : Shape → List ℕ → ℕ → ℕ → ℕ
cover_level s states x zero = zero
cover_level s states x (suc l) =
    cond (undivided (state_at s states (suc l) (x / size s (suc l)))) (suc l) (cover_level s states x l)

-- the block over the offset at level l
abbrev pub block_over : Shape → List ℕ → ℕ → ℕ → Result Covered Refusal
block_over s states x l = Ok (record { id = id s l (x / size s l); state = state_at s states l (x / size s l) })

-- cover: the one undivided existing block over a byte offset, with its state
unfoldable pub cover : Shape → State → ℕ → Result Covered Refusal
cover s T x =
    checked Err s T
    (cond (ltb x (bytes s)) (block_over s T.pool.states x (cover_level s T.pool.states x (s.levels - 1)))
    (Err OffsetOutside))

-- what n blocks from b on list, one behind the other
unfoldable pub listed : (ℕ → List ℕ) → ℕ → ℕ → List ℕ
listed f b zero = []
listed f b (suc n) = f b ++ listed f (b + 1) n

-- a divided block is listed as its parts, and parts are listed each as a block; the depth is what lies below the level
unfoldable pub map_block : Shape → List ℕ → ℕ → ℕ → ℕ → List ℕ
map_block s states zero l b = id s l b ∷ []
map_block s states (suc depth) l b =
    cond (eqb (state_at s states l b) DIVIDED) (listed (map_block s states depth (l + 1)) (parts s * b) (parts s)) (id s l b ∷ [])

-- ids of all undivided existing blocks by address
unfoldable pub map_ids : Shape → List ℕ → List ℕ
map_ids s states = listed (map_block s states (s.levels - 1) 0) 0 s.tops

-- what map answers, and the row as it leaves it: a row longer than the map keeps its further places
pub record MapOutcome : Type 0 where
  pub answer : Result ℕ Refusal
  pub row : List ℕ

abbrev pub map_outcome : Result ℕ Refusal → List ℕ → MapOutcome
map_outcome a row = record { answer = a; row = row }

unfoldable pub map_row : Shape → List ℕ → List ℕ → MapOutcome
map_row s states row =
    cond (ltb (length row) (length (map_ids s states))) (map_outcome (Err RowTooShort) row)
    (map_outcome (Ok (length (map_ids s states))) (sets row 0 (map_ids s states)))

unfoldable pub map_pool : Shape → State → List ℕ → MapOutcome
map_pool s T row = checked (λ r. map_outcome (Err r) row) s T (map_row s T.pool.states row)
