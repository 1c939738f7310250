-- The free lists: a list that is put is the list that stands there, and the other levels' lists stay as they are.
-- Assumes nothing.
use Rattle.std.specs.Prelude.{◌≡◌, true, ◌⊎◌, ◌≢◌, ℕ, ◌+◌, ◌≤◌, ◌<◌, length, drop, ltb, eqb}
use Rattle.std.proofs.Math.Path.{sym, ap}
use Rattle.std.proofs.Common.{◌∙◌, arith, length-set, take-take, leb-true, ltb-true, eqb-true}
use Rattle.std.proofs.Math.Logic.{inl, inr, ⊎_elim}
use mathlib.Core.List.{List}
use Rattle.std.proofs.Math.Decide.{dec_lt}
use Rattle.std.proofs.Math.ListN.{get_or, take, get_or-eq_default}
use Rattle.std.proofs.lemmas.List.Edits.{sets}
use Rattle.std.proofs.Math.Seq.{length-sets, set-set, get_or-set_same, get_or-set_other, drop-set-lt}
use Rattle.std.proofs.lemmas.List.{set-get_or}
use Rattle.laws.specs.Tests.{both, either, every-at}
use Rattle.laws.specs.Lists.{pad}
use Rattle.laws.specs.Keep.{length-pad, take-pad, pad-take, get_or-sets-other}
use Rattle.laws.specs.Rows.{row, length-row, get_or-row, sets-row, row-sets, set_before, sets-sets, row_same, get_or-pad}
use Rattle.shape.specs.declared.Shape.{Shape}
use Rattle.shape.specs.Limits.{allowed}
use Rattle.shape.specs.Blocks.{count, blocks}
use Rattle.shape.specs.Sections.{levels-apart, level-inside}
use Rattle.rules.specs.Tables.{section, free_list, put_list}
use Rattle.rules.specs.Valid.{list_ends}

-- the list of level l may be read and changed
pub record ListReady (s : Shape) (lists : List ℕ) (l : ℕ) : Type 0 where
  pub shape : allowed s ≡ true
  pub level : l < s.levels
  pub whole : length lists ≡ s.levels + blocks s
  pub most : get_or lists l 0 ≤ count s l
  pub ended : (i : ℕ) → get_or lists l 0 ≤ i → i < count s l → get_or lists (section s l + i) 0 ≡ 0

pub length-put_list : (s : Shape) (lists : List ℕ) (l : ℕ) (xs : List ℕ) → length (put_list s lists l xs) ≡ length lists
unfolding put_list
length-put_list s lists l xs = simp (length-set, length-sets)

module _ (s : Shape) (lists : List ℕ) (l : ℕ) (whole : length lists ≡ s.levels + blocks s) (level : l < s.levels) where
  -- a section ends where the tables do, at the latest
  pub section-inside : section s l + count s l ≤ length lists
  section-inside = rw whole (omega (arith, level-inside s l level))

  -- the section that was put
  pub row_put :
      (xs : List ℕ) → length xs ≤ count s l →
      row (section s l) (count s l) (sets lists (section s l) (pad (count s l) xs)) ≡ pad (count s l) xs
  row_put xs h =
      rw (length-pad (count s l) xs h) at
      (row-sets (section s l) lists (pad (count s l) xs) (rw (length-pad (count s l) xs h) section-inside))

  -- the length that was put
  pub length-put : (xs : List ℕ) → get_or (put_list s lists l xs) l 0 ≡ length xs
  unfolding put_list
  length-put xs =
      get_or-set_same (sets lists (section s l) (pad (count s l) xs)) l (length xs) 0
      (simp length-sets (omega arith))

  -- the places of the section that was put
  pub member-put :
      (xs : List ℕ) (i : ℕ) → length xs ≤ count s l → i < count s l →
      get_or (put_list s lists l xs) (section s l + i) 0 ≡ get_or xs i 0
  unfolding put_list
  member-put xs i h k =
      get_or-set_other (sets lists (section s l) (pad (count s l) xs)) l (section s l + i) (length xs) 0 (omega arith)
      ∙ sym (get_or-row (section s l) (count s l) (sets lists (section s l) (pad (count s l) xs)) i k)
      ∙ ap (λ (r : List ℕ). get_or r i 0) (row_put xs h)
      ∙ get_or-pad (count s l) xs i

  -- and the others
  pub other-put :
      (xs : List ℕ) (j : ℕ) → length xs ≤ count s l → j ≢ l → (j < section s l) ⊎ (section s l + count s l ≤ j) →
      get_or (put_list s lists l xs) j 0 ≡ get_or lists j 0
  unfolding put_list
  other-put xs j h d o =
      get_or-set_other (sets lists (section s l) (pad (count s l) xs)) l j (length xs) 0 d
      ∙ get_or-sets-other lists (pad (count s l) xs) (section s l) j 0
      (λ k m e. ⊎_elim (λ w. omega arith) (λ w. omega (arith, length-pad (count s l) xs h)) o)

  pub free_list-put : (xs : List ℕ) → length xs ≤ count s l → free_list s (put_list s lists l xs) l ≡ xs
  unfolding free_list put_list row
  free_list-put xs h =
      rw (length-put xs, drop-set-lt (section s l) (sets lists (section s l) (pad (count s l) xs)) l (length xs) (omega arith))
      (sym (take-take (length xs) (count s l) _ h)
      ∙ ap (λ (r : List ℕ). take (length xs) r) (row_put xs h)
      ∙ take-pad (count s l) xs)

  pub put_list-put :
      (xs ys : List ℕ) → length xs ≤ count s l → length ys ≤ count s l →
      put_list s (put_list s lists l xs) l ys ≡ put_list s lists l ys
  unfolding put_list
  put_list-put xs ys h k =
      rw (
        ← set_before (section s l) l (length xs) _ (pad (count s l) ys) (omega arith),
        set-set,
        sets-sets (section s l) lists (pad (count s l) xs) (pad (count s l) ys)
            (length-pad (count s l) xs h ∙ sym (length-pad (count s l) ys k)),
      )

  pub free_list-put-other :
      (xs : List ℕ) (m : ℕ) → length xs ≤ count s l → m ≢ l → m < s.levels → get_or lists m 0 ≤ count s m →
      free_list s (put_list s lists l xs) m ≡ free_list s lists m
  unfolding free_list row
  free_list-put-other xs m h d k most =
      rw (other-put xs m h d (inl (omega arith)))
      (row_same (section s m) (get_or lists m 0) (put_list s lists l xs) lists (length-put_list s lists l xs)
      (λ i b. other-put xs (section s m + i) h (omega arith) (apart i (omega arith) (dec_lt m l))))
    where
      apart : (i : ℕ) → i < count s m → Dec (m < l) → (section s m + i < section s l) ⊎ (section s l + count s l ≤ section s m + i)
      apart i b (yes w) = inl (omega (arith, levels-apart s m l w))
      apart i b (no w) = inr (omega (arith, levels-apart s l m (omega arith)))

  pub length-free_list : get_or lists l 0 ≤ count s l → length (free_list s lists l) ≡ get_or lists l 0
  unfolding free_list row
  length-free_list most = length-row (section s l) (get_or lists l 0) lists (omega (arith, section-inside))

-- the section of a list that is ready is the list, with zeros behind it
pub section-row :
    (s : Shape) (lists : List ℕ) (l : ℕ) → ListReady s lists l →
    row (section s l) (count s l) lists ≡ pad (count s l) (free_list s lists l)
unfolding free_list row
section-row s lists l h =
    rw (wide, take-take (get_or lists l 0) (count s l) (drop (section s l) lists) h.most) at
    (pad-take (get_or lists l 0) (row (section s l) (count s l) lists)
    (rw wide h.most)
    (λ i m k. get_or-row (section s l) (count s l) lists i (rw wide at k) ∙ h.ended i m (rw wide at k)))
  where
    wide : length (row (section s l) (count s l) lists) ≡ count s l
    wide = length-row (section s l) (count s l) lists (section-inside s lists l h.whole h.level)

-- a list put where it stands
pub put_list-same : (s : Shape) (lists : List ℕ) (l : ℕ) → ListReady s lists l → put_list s lists l (free_list s lists l) ≡ lists
unfolding put_list
put_list-same s lists l h =
    rw (
      length-free_list s lists l h.whole h.level h.most,
      ← section-row s lists l h,
      sets-row (section s l) (count s l) lists (section-inside s lists l h.whole h.level),
    )
    (set-get_or lists l 0)

pub ready-put :
    (s : Shape) (lists : List ℕ) (l : ℕ) (xs : List ℕ) → ListReady s lists l → length xs ≤ count s l →
    ListReady s (put_list s lists l xs) l
ready-put s lists l xs h k =
    record {
      shape = h.shape;
      level = h.level;
      whole = length-put_list s lists l xs ∙ h.whole;
      most = rw (length-put s lists l h.whole h.level xs) k;
      ended =
          λ i m b. member-put s lists l h.whole h.level xs i k b
          ∙ get_or-eq_default xs 0 (rw (length-put s lists l h.whole h.level xs) at m);
    }

pub list_ready :
    (s : Shape) (lists : List ℕ) (l : ℕ) → allowed s ≡ true → list_ends s lists ≡ true → length lists ≡ s.levels + blocks s →
    l < s.levels → ListReady s lists l
unfolding list_ends
list_ready s lists l shape ends whole level =
    let e = both _ _ (every-at _ _ ends l level) in
    record {
      shape = shape;
      level = level;
      whole = whole;
      most = leb-true _ _ e.0;
      ended = λ i m b. behind i m (either _ _ (every-at _ _ e.1 i b));
    }
  where
    behind :
        (i : ℕ) → get_or lists l 0 ≤ i → (ltb i (get_or lists l 0) ≡ true) ⊎ (eqb (get_or lists (section s l + i) 0) 0 ≡ true) →
        get_or lists (section s l + i) 0 ≡ 0
    behind i m (inl w) = absurd (omega (arith, ltb-true i (get_or lists l 0) w))
    behind i m (inr w) = eqb-true _ _ w
