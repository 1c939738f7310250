-- What validity says of one level, in the order in which it is tried.
-- Assumes nothing.
use mathlib.Core.Path.{◌≡◌, refl, sym, ◌∙◌, ap, ap₂}
use mathlib.Core.Bool.{Bool, true, false, not, ◌&&◌, ◌||◌}
use mathlib.Core.List.{List}
use Prim.Native.Nat.{ℕ, ◌+◌, ◌-◌, ◌≤◌, ◌<◌}
use native.Mathlib.Decide.{dec_lt}
use native.Mathlib.Omega.{arith}
use lib.ListN.{length, get_or, take, drop, length-drop}
use lib.Seq.{get_or-drop, take_all, length-take-le}
use lib.Dec.{eqb, ltb}
use borrow.Author.Tests.{ltb-true, le-ltb, lt-ltb, le-leb, lt-leb}
use Rattle.laws.specs.Tests.{every, every-at, every_of, every-same, tally}
use Rattle.laws.specs.Lists.{times}
use Rattle.laws.specs.Times.{same_test}
use Rattle.laws.specs.Counts.{named-once}
use Rattle.shape.specs.Limits.{most_count}
use Rattle.rules.specs.Numbers.{FREE}
use Rattle.check_counts.specs.Counted.{counted, counted-one}
use Rattle.check_lists.specs.Level.{zeros, below, ends, free, level_valid}
use Rattle.check_lists.specs.Marks.{marked, all_marked}

-- a list longer than its cells
pub level-long : (states cells : List ℕ) (used : ℕ) → length cells < used → false ≡ level_valid states cells used
unfolding level_valid
level-long states cells used h = rw (lt-leb used (length cells) h)

-- the cells behind the list's end
abbrev pub behind : List ℕ → ℕ → List ℕ
behind cells used = take (length cells - used) (drop used cells)

-- the places behind the end hold zero where the cells behind it do
pub ends-zeros : (cells : List ℕ) (used : ℕ) → used ≤ length cells → ends cells used ≡ zeros (behind cells used)
ends-zeros cells used h =
    rw (le-leb used (length cells) h, take_all (length cells - used) (drop used cells) (omega (arith, length-drop used cells)))
    (same_test _ _ there back)
  where
    same : (i : ℕ) → (ltb (used + i) used || eqb (get_or cells (used + i) 0) 0) ≡ eqb (get_or (drop used cells) i 0) 0
    same i = rw (le-ltb (used + i) used (omega arith), get_or-drop)

    there :
        every (length cells) (λ i. ltb i used || eqb (get_or cells i 0) 0) ≡ true →
        zeros (drop used cells) ≡ true
    there e = every_of _ _ (λ i l. sym (same i) ∙ every-at _ _ e (used + i) (omega (arith, length-drop used cells)))

    back :
        zeros (drop used cells) ≡ true →
        every (length cells) (λ i. ltb i used || eqb (get_or cells i 0) 0) ≡ true
    back e = every_of _ _ (λ i l. pick i l (dec_lt i used))
      where
        pick : (i : ℕ) → i < length cells → Dec (i < used) → (ltb i used || eqb (get_or cells i 0) 0) ≡ true
        pick i l (yes k) = rw (lt-ltb i used k)
        pick i l (no k) = here (i - used) (omega arith)
          where
            here : (j : ℕ) → i ≡ used + j → (ltb i used || eqb (get_or cells i 0) 0) ≡ true
            here j q =
                ap (λ (n : ℕ). ltb n used || eqb (get_or cells n 0) 0) q
                ∙ (same j ∙ every-at _ (λ i. eqb (get_or (drop used cells) i 0) 0) e j (omega (arith, length-drop used cells)))

-- a place behind the end that is not zero
pub level-zeros :
    (states cells : List ℕ) (used : ℕ) → used ≤ length cells → zeros (behind cells used) ≡ false →
    false ≡ level_valid states cells used
unfolding level_valid
level-zeros states cells used h z = rw (ends-zeros cells used h, z)

-- a member that is no block of the level
pub level-below :
    (states cells : List ℕ) (used : ℕ) → below (take used cells) (length states) ≡ false →
    false ≡ level_valid states cells used
unfolding level_valid
level-below states cells used e = rw e (none (ends cells used))
  where
    none : (a : Bool) → false ≡ (a && false)
    none true = refl
    none false = refl

-- the list fits its cells, the rest is zero, and the members are blocks of the level
pub record Tried (states cells : List ℕ) (used : ℕ) : Type 0 where
  pub fits : used ≤ length cells
  pub rest : zeros (behind cells used) ≡ true
  pub inside : below (take used cells) (length states) ≡ true

-- so the members are below the most blocks that a level has
pub tried-below :
    {states cells : List ℕ} {used : ℕ} → Tried states cells used → length states ≤ most_count →
    below (take used cells) most_count ≡ true
tried-below {states} {cells} {used} t few =
    every_of (length (take used cells)) _ (λ i l.
    lt-ltb (get_or (take used cells) i 0) most_count
    (omega (arith, ltb-true (get_or (take used cells) i 0) (length states) (every-at (length (take used cells)) _ t.inside i l))))

-- then what is left: as many members as FREE blocks, and each of these named, as the marks say
pub level-marks :
    {states cells : List ℕ} {used : ℕ} (marks : List ℕ) {n : ℕ} {ok : Bool} → Tried states cells used →
    length states ≤ most_count → ((b : ℕ) → b < most_count → marked marks b ≡ ltb 0 (times b (take used cells))) →
    n ≡ counted states FREE FREE → ok ≡ every (length states) (all_marked states marks) → (eqb n used && ok) ≡ level_valid states cells used
unfolding level_valid
level-marks {states} {cells} {used} marks t few m c e =
    rw (c, e, counted-one states FREE)
    (ap₂ ◌&&◌ (ap (eqb (tally (length states) (free states))) (sym (length-take-le used cells t.fits)))
    (every-same (length states) _ _ (λ b l. ap (λ (a : Bool). not (free states b) || a) (m b (omega arith))))
    ∙ named-once (length states) (free states) (take used cells) t.inside
    ∙ rw (ends-zeros cells used t.fits, t.rest, t.inside))
