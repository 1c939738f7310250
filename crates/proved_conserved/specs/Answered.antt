-- The public map: on sound tables it answers the number of undivided existing blocks and writes their ids by address, or refuses a row that
-- is too short. Different blocks have different ids.
-- Assumes nothing.
use Rattle.std.specs.Prelude.{Ok, ◌≡◌, List, map, ℕ, ◌<◌, length}
use Rattle.std.proofs.Common.{sym, ◌∙◌, ap, arith}
use Rattle.std.proofs.lemmas.List.Edits.{sets}
use Rattle.shape.specs.declared.Shape.{Shape}
use Rattle.shape.specs.Blocks.{bytes, id_block}
use Rattle.shape.specs.Laws.{Limits}
use Rattle.rules.specs.Tables.{State}
use Rattle.rules.specs.Questions.{map_outcome, map_pool}
use Rattle.proved_conserved.specs.Pairs.{id_of}
use Rattle.proved_conserved.specs.Partition.{Standing, Follow, Among}
use Rattle.proved_conserved.specs.Each.{Listed}

-- what map answers, and the row afterwards, by the blocks that it lists: by address, each beginning where the last ended, from the pool's first
-- byte to its last; every undivided existing block, and none twice. The row's further places stay as they were.
pub record MapAnswers (s : Shape) (T : State) (row : List ℕ) : Type 0 where
  pub blocks : List (ℕ × ℕ)
  pub follow : Follow s T.pool.states 0 blocks (bytes s)
  pub every : (l b : ℕ) → Standing s T.pool.states l b → Listed blocks l b
  pub once : (l b : ℕ) (before behind : List (ℕ × ℕ)) → Among blocks before l b behind → Listed behind l b → ⊥
  pub answer : map_pool s T row ≡ map_outcome (Ok (length blocks)) (sets row 0 (map (id_of s) blocks))

-- an id names one block
pub ids-differ :
    (s : Shape) → Limits s → (l b m c : ℕ) → l < s.levels → m < s.levels → id_of s (l, b) ≡ id_of s (m, c) → (l ≡ m) × (b ≡ c)
ids-differ s h l b m c i j e = (omega (arith, block), block)
  where
    number : (l b : ℕ) → l < s.levels → id_block (id_of s (l, b)) ≡ b
    number l b i = omega (arith, h.levels.1, h.pool)

    block : b ≡ c
    block = sym (number l b i) ∙ ap id_block e ∙ number m c j
