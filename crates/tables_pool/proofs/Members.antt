-- The members of a level's list in its section: the section as a row of its own, and what stores in it make of the whole table.
-- Assumes nothing.
use mathlib.Core.Path.{◌≡◌, sym, ◌∙◌, ap}
use mathlib.Core.List.{List, [], ◌∷◌, ◌++◌, append_assoc, append-nil}
use Prim.Native.Nat.{ℕ, ◌+◌, ◌-◌, ◌≤◌, ◌<◌}
use native.Mathlib.Omega.{arith}
use lib.ListN.{length, get_or, take, drop, set, length-append}
use lib.Seq.{sets, take-take}
use borrow.Rule.Slice.PartMut.{mid_of, put_mid}
use Rattle.laws.specs.Lists.{pad, up_from}
use Rattle.laws.specs.Keep.{length-pad, pad-set}
use Rattle.laws.specs.Rows.{row, length-row, get_or-row, sets-row, set-within, up_from-more, length-up_from}
use Rattle.shape.specs.declared.Shape.{Shape}
use Rattle.shape.specs.Blocks.{count}
use Rattle.shape.specs.Laws.{limits, count-range}
use Rattle.rules.specs.Tables.{section, free_list, put_list}
use Rattle.facts.specs.Lists.{ListReady, section-inside, section-row, length-free_list, length-put, free_list-put, put_list-put, put_list-same, ready-put}
use Rattle.tables_pool.specs.Row.{Ended}
use Rattle.shape.specs.Limits.{most_count}
use Rattle.tables_pool.proofs.Parts.{put_back}

-- the tables with the numbers from b up to e at the end of a list
abbrev pub grown : Shape → List ℕ → ℕ → ℕ → ℕ → List ℕ
grown s lists l b e = put_list s lists l (free_list s lists l ++ up_from b (e - b))

up_from-next : (b e : ℕ) → b ≤ e → up_from b (e - b) ++ (e ∷ []) ≡ up_from b (e + 1 - b)
up_from-next b e h =
    let one : e + 1 - b ≡ e - b + 1 = omega arith in
    let end : b + (e - b) ≡ e = omega arith in
    rw one (sym (rw end at (up_from-more b (e - b))))

module _ {s : Shape} {lists : List ℕ} {l : ℕ} (ready : ListReady s lists l) where
  -- a section ends where the tables do, at the latest, and a list is short
  pub bounds : (section s l + count s l ≤ length lists) × (count s l ≤ most_count)
  bounds = (
    section-inside s lists l ready.whole ready.level,
    (count-range s l (limits s ready.shape) ready.level).1,
  )

  row-length : length (row (section s l) (count s l) lists) ≡ count s l
  row-length = length-row (section s l) (count s l) lists bounds.0

  -- the section holds the list's members in front and zeros behind them
  row-ended : Ended (row (section s l) (count s l) lists) (get_or lists l 0)
  row-ended =
      record {
        most = rw row-length ready.most;
        zeros =
            λ i m k. get_or-row (section s l) (count s l) lists i (rw row-length at k) ∙ ready.ended i m (rw row-length at k);
      }

  row-members : take (get_or lists l 0) (row (section s l) (count s l) lists) ≡ free_list s lists l
  unfolding row free_list
  row-members = take-take (get_or lists l 0) (count s l) (drop (section s l) lists) ready.most

  members : length (free_list s lists l) ≡ get_or lists l 0
  members = length-free_list s lists l ready.whole ready.level ready.most

  pub first_member : 0 < get_or lists l 0 → get_or (free_list s lists l) 0 0 ≡ get_or lists (section s l + 0) 0
  unfolding row free_list
  first_member h = get_or-row (section s l) (get_or lists l 0) lists 0 h

  -- a member more is a store behind the last one, and the length
  pub appended :
      (b : ℕ) → get_or lists l 0 < count s l →
      set (set lists (section s l + get_or lists l 0) b) l (get_or lists l 0 + 1) ≡ put_list s lists l (free_list s lists l ++ (b ∷ []))
  unfolding put_list
  appended b h =
      sym
      (rw (length-append, members, ← pad-set (count s l) b (free_list s lists l) (rw members h), members)
      (ap (λ (r : List ℕ). set r l (get_or lists l 0 + 1))
      (sym (set-within (section s l) (get_or lists l 0) b lists (pad (count s l) (free_list s lists l)) (rw padded h))
      ∙ ap (λ (r : List ℕ). set r (section s l + get_or lists l 0) b) stays)))
    where
      padded : length (pad (count s l) (free_list s lists l)) ≡ count s l
      padded = length-pad (count s l) (free_list s lists l) (rw members ready.most)

      stays : sets lists (section s l) (pad (count s l) (free_list s lists l)) ≡ lists
      stays = rw (← section-row s lists l ready) (sets-row (section s l) (count s l) lists bounds.0)

  grown-length : (b e : ℕ) → length (free_list s lists l ++ up_from b (e - b)) ≡ get_or lists l 0 + (e - b)
  grown-length b e = simp (length-append, length-up_from, members)

  pub grown-none : (b : ℕ) → lists ≡ grown s lists l b b
  unfolding up_from
  grown-none b =
      let none : b - b ≡ 0 = omega arith in
      rw (none, append-nil) (sym (put_list-same s lists l ready))

  pub grown-ready :
      (b e : ℕ) → get_or lists l 0 + (e - b) < count s l →
      ListReady s (grown s lists l b e) l × (get_or (grown s lists l b e) l 0 < count s l)
  grown-ready b e h = (
    ready-put s lists l _ ready (omega (arith, grown-length b e)),
    rw (length-put s lists l ready.whole ready.level (free_list s lists l ++ up_from b (e - b)), grown-length b e) h,
  )

  pub grown-more :
      (b e : ℕ) → b ≤ e → get_or lists l 0 + (e - b) < count s l →
      put_list s (grown s lists l b e) l (free_list s (grown s lists l b e) l ++ (e ∷ [])) ≡ grown s lists l b (e + 1)
  grown-more b e h k =
      rw (
        free_list-put s lists l ready.whole ready.level (free_list s lists l ++ up_from b (e - b)) (omega (arith, grown-length b e)),
        append_assoc,
        up_from-next b e h,
      )
      (put_list-put s lists l ready.whole ready.level _ _
      (omega (arith, grown-length b e))
      (omega (arith, grown-length b (e + 1))))

  module _ {from wide : ℕ} (start : from ≡ section s l) (long : wide ≡ count s l) where
    -- the part that is lent is the section
    lent : mid_of from (from + wide - from) lists ≡ row (section s l) (count s l) lists
    unfolding row
    lent =
        let e : from + wide - from ≡ count s l = omega arith in
        rw (e, start)

    pub lent-ended : Ended (mid_of from (from + wide - from) lists) (get_or lists l 0)
    lent-ended = rw lent row-ended

    pub lent-members : length (take (get_or lists l 0) (mid_of from (from + wide - from) lists)) ≡ get_or lists l 0
    lent-members = rw (lent, row-members) members

    -- what is left of its members is short enough to be counted there
    pub lent-count :
        (g : List ℕ → List ℕ) {n : ℕ} → ((xs : List ℕ) → length (g xs) ≤ length xs) →
        n ≡ length (g (take (get_or lists l 0) (mid_of from (from + wide - from) lists))) → n ≤ most_count
    lent-count g less e =
        omega (
          arith,
          less (take (get_or lists l 0) (mid_of from (from + wide - from) lists)),
          lent-members,
          ready.most,
          bounds,
        )

    -- it comes back with what the list has become in front, and the length is stored
    pub lent_back :
        (g : List ℕ → List ℕ) {ys : List ℕ} {n : ℕ} → ((xs : List ℕ) → length (g xs) ≤ length xs) →
        ys ≡ pad (length (mid_of from (from + wide - from) lists)) (g (take (get_or lists l 0) (mid_of from (from + wide - from) lists))) →
        n ≡ length (g (take (get_or lists l 0) (mid_of from (from + wide - from) lists))) →
        set (put_mid from (from + wide - from) lists ys) l n ≡ put_list s lists l (g (free_list s lists l))
    unfolding put_list
    lent_back g {ys} {n} less e f = rw (stored, counted) (ap (λ (r : List ℕ). set r l (length (g (free_list s lists l)))) back)
      where
        stored : ys ≡ pad (count s l) (g (free_list s lists l))
        stored = rw (lent, row-length, row-members) at e

        counted : n ≡ length (g (free_list s lists l))
        counted = rw (lent, row-members) at f

        padded : length (pad (count s l) (g (free_list s lists l))) ≡ count s l
        padded =
            length-pad (count s l) (g (free_list s lists l))
            (omega (arith, less (free_list s lists l), members, ready.most))

        back :
            put_mid from (from + wide - from) lists (pad (count s l) (g (free_list s lists l)))
            ≡ sets lists (section s l) (pad (count s l) (g (free_list s lists l)))
        back =
            let e : from + wide - from ≡ count s l = omega arith in
            rw (e, start)
            (rw padded at (put_back (section s l) lists (pad (count s l) (g (free_list s lists l))) (rw padded bounds.0)))
