-- A part of a list that is lent and comes back changed is a run of stores.
-- Assumes nothing.
use Rattle.std.proofs.Common.{◌≡◌, ℕ, ◌+◌, ◌-◌, ◌≤◌, List, length, replicate, take, sym, ◌∙◌, append_assoc, arith}
use Rattle.std.proofs.lemmas.List.{length-replicate}
use Rattle.std.proofs.lemmas.List.Edits.{sets, sets-eq}
use lib.Seq.{drop-drop}
use borrow.Rule.Slice.PartMut.{put_mid}

pub put_back :
    (i : ℕ) (xs vs : List ℕ) → i + length vs ≤ length xs → put_mid i (length vs) xs vs ≡ sets xs i vs
put_back i xs vs h =
    sym
    (sets-eq vs xs i h
    ∙ append_assoc (take i xs) vs _
    ∙ rw (← drop-drop (length vs) i xs))

-- n places are lent, up to e, and come back filled with one number
pub filled :
    (i n x : ℕ) (xs ys : List ℕ) (e : ℕ) → e ≡ i + n → i + n ≤ length xs → ys ≡ replicate n x →
    put_mid i (e - i) xs ys ≡ sets xs i (replicate n x)
filled i n x xs ys e end h all =
    let wide : e - i ≡ n = omega arith in
    rw (wide, all) (rw length-replicate at (put_back i xs (replicate n x) (rw length-replicate h)))
