-- The blocks that map lists, each as its level and its number: map's ids are theirs.
-- Assumes nothing.
use Rattle.std.specs.Prelude.{◌≡◌, refl, Bool, true, false, cond, List, [], ◌∷◌, ◌++◌, map, ℕ, zero, suc, ◌+◌, ◌*◌, ◌-◌, eqb}
use Rattle.std.proofs.Common.{sym, ◌∙◌, ap, ap₂}
use Rattle.shape.specs.declared.Shape.{Shape}
use Rattle.shape.specs.Limits.{parts}
use Rattle.shape.specs.Blocks.{id}
use Rattle.rules.specs.Numbers.{DIVIDED}
use Rattle.rules.specs.Tables.{state_at}
use Rattle.rules.specs.Questions.{listed, map_block, map_ids}
use Rattle.proved_conserved.specs.Pairs.{pairs_from, block_pairs, map_pairs, id_of}

map-join : (f : ℕ × ℕ → ℕ) (xs ys : List (ℕ × ℕ)) → map f (xs ++ ys) ≡ map f xs ++ map f ys
map-join f [] ys = refl
map-join f (x ∷ xs) ys = ap (λ (r : List ℕ). f x ∷ r) (map-join f xs ys)

-- blocks that list ids of pairs list them one behind the other
ids-from :
    (s : Shape) (g : ℕ → List ℕ) (f : ℕ → List (ℕ × ℕ)) → ((b : ℕ) → g b ≡ map (id_of s) (f b)) → (b n : ℕ) →
    listed g b n ≡ map (id_of s) (pairs_from f b n)
unfolding listed pairs_from
ids-from s g f e b zero = refl
ids-from s g f e b (suc n) =
    ap₂ ◌++◌ (e b) (ids-from s g f e (b + 1) n) ∙ sym (map-join (id_of s) (f b) (pairs_from f (b + 1) n))

ids-block : (s : Shape) (states : List ℕ) (depth l b : ℕ) → map_block s states depth l b ≡ map (id_of s) (block_pairs s states depth l b)
unfolding map_block block_pairs
ids-block s states zero l b = refl
ids-block s states (suc depth) l b = pick (eqb (state_at s states l b) DIVIDED) (ids-from s _ _ (ids-block s states depth (l + 1)))
  where
    pick :
        (d : Bool) →
        ((c n : ℕ) →
        listed (map_block s states depth (l + 1)) c n ≡ map (id_of s) (pairs_from (block_pairs s states depth (l + 1)) c n)) →
        cond d (listed (map_block s states depth (l + 1)) (parts s * b) (parts s)) (id s l b ∷ [])
        ≡ map (id_of s) (cond d (pairs_from (block_pairs s states depth (l + 1)) (parts s * b) (parts s)) ((l, b) ∷ []))
    pick true e = e (parts s * b) (parts s)
    pick false e = refl

-- map's ids are the ids of these blocks, in their order
pub ids-pairs : (s : Shape) (states : List ℕ) → map_ids s states ≡ map (id_of s) (map_pairs s states)
unfolding map_ids map_pairs
ids-pairs s states = ids-from s _ _ (ids-block s states (s.levels - 1) 0) 0 s.tops
