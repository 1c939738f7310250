-- The blocks that map lists, each as its level and its number: map's ids are theirs.
-- Assumes nothing.
use Rattle.std.specs.Prelude.{cond, List, [], ◌∷◌, ◌++◌, ℕ, zero, suc, ◌+◌, ◌*◌, ◌-◌, eqb}
use Rattle.shape.specs.declared.Shape.{Shape}
use Rattle.shape.specs.Limits.{parts}
use Rattle.shape.specs.Blocks.{id}
use Rattle.rules.specs.Numbers.{DIVIDED}
use Rattle.rules.specs.Tables.{state_at}

-- what n blocks from b on list, one behind the other
unfoldable pub pairs_from : (ℕ → List (ℕ × ℕ)) → ℕ → ℕ → List (ℕ × ℕ)
pairs_from f b zero = []
pairs_from f b (suc n) = f b ++ pairs_from f (b + 1) n

-- a divided block is listed as its parts; the depth is what lies below the level
unfoldable pub block_pairs : Shape → List ℕ → ℕ → ℕ → ℕ → List (ℕ × ℕ)
block_pairs s states zero l b = (l, b) ∷ []
block_pairs s states (suc depth) l b =
    cond (eqb (state_at s states l b) DIVIDED) (pairs_from (block_pairs s states depth (l + 1)) (parts s * b) (parts s)) ((l, b) ∷ [])

-- level and number of all blocks that map lists
unfoldable pub map_pairs : Shape → List ℕ → List (ℕ × ℕ)
map_pairs s states = pairs_from (block_pairs s states (s.levels - 1) 0) 0 s.tops

-- the id of a block, by its level and its number
abbrev pub id_of : Shape → ℕ × ℕ → ℕ
id_of s p = id s p.0 p.1
