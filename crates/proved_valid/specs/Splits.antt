-- Split: the block in hand becomes DIVIDED, its first part is in hand, and the others are FREE and listed; the tables stay kept.
-- Assumes nothing.
use Rattle.std.specs.Prelude.{◌≡◌, Bool, ◌⊎◌, List, ◌∷◌, ◌++◌, ℕ, zero, suc, ◌+◌, ◌*◌, ◌-◌, ◌/◌, ◌≤◌, ◌<◌, length, get_or, replicate}
use Rattle.std.proofs.Math.Path.{refl, ap}
use Rattle.std.proofs.Common.{sym, ◌∙◌, inl, inr, arith, leb-true, eq-eqb}
use Rattle.std.proofs.Math.Bool.{true, false, not}
use Rattle.std.proofs.Math.Nat.{mul-div_right}
use Rattle.std.proofs.Math.Decide.{dec_lt}
use Rattle.std.proofs.lemmas.List.{length-replicate, get_or-replicate}
use Rattle.std.proofs.Math.Dec.{leb, eqb}
use Rattle.laws.specs.Tests.{bit, every-not}
use Rattle.laws.specs.Lists.{times, up_from}
use Rattle.laws.specs.Times.{times-append}
use Rattle.laws.specs.Changes.{times-among, times-outside, part_of}
use Rattle.shape.specs.declared.Shape.{Shape}
use Rattle.shape.specs.Limits.{parts}
use Rattle.shape.specs.Blocks.{count, place, level_for}
use Rattle.shape.specs.Laws.{parts-pos, level_for-inside, limits}
use Rattle.shape.specs.Sections.{part-inside}
use Rattle.rules.specs.declared.Call.{Call}
use Rattle.rules.specs.Numbers.{ALLOCATED, FREE, DIVIDED, NOEXIST, FREEING, ALLOCATING, DIVIDING}
use Rattle.rules.specs.Tables.{State, state_at, free_list}
use Rattle.rules.specs.Valid.{uses_block, in_hand, size_kept, dividing, releasing}
use Rattle.rules.specs.Steps.{holding, split_step}
use Rattle.facts.specs.Given.{parts_none}
use Rattle.facts.specs.Running.{Running, own-facts, uses-block, hand-placed, allocating}
use Rattle.proved_valid.specs.Lines.{Facts, facts}
use Rattle.proved_valid.specs.CallLines.{dividing-kept}
use Rattle.proved_valid.specs.OneCall.{not-in-hand, hand-there, hand-elsewhere}
use Rattle.proved_valid.specs.FreeLists.{Lists, listing, listed_at}
use Rattle.proved_valid.specs.Runs.{hands-after}
use Rattle.proved_valid.specs.Family.{Family, family, family-alike}
use Rattle.proved_valid.specs.FamilyLists.{Relists, listing-family}
use Rattle.proved_valid.specs.FamilyKept.{HandsPassed, hands-family, family-kept}

-- what the parts become: the first ALLOCATING, the others FREE
abbrev pub split : Shape → List ℕ
split s = ALLOCATING ∷ replicate (parts s - 1) FREE

pub split-wide : (s : Shape) → length (split s) ≡ parts s
split-wide s = omega (arith, length-replicate (parts s - 1) FREE, parts-pos s)

pub split-later : (s : Shape) (j : ℕ) → suc j < parts s → get_or (split s) (suc j) 0 ≡ FREE
split-later s j h = get_or-replicate (parts s - 1) j FREE 0 (omega arith)

-- what a test says of both it says of each
split-test :
    (s : Shape) (τ : ℕ → Bool) (x : Bool) → τ ALLOCATING ≡ x → τ FREE ≡ x → (j : ℕ) → j < parts s →
    τ (get_or (split s) j 0) ≡ x
split-test s τ x e f zero h = e
split-test s τ x e f (suc j) h = ap τ (split-later s j h) ∙ f

-- the call with the first part in hand
abbrev first : Shape → Call → Call
first s c = holding DIVIDING c.size (c.level + 1) (parts s * c.block)

module _ {s : Shape} {T : State} {t : ℕ} {c : Call} (g : Running s T t c) (e : c.stage ≡ DIVIDING)
    (above : c.level < level_for s c.size) where
  used : uses_block c ≡ true
  used = uses-block c DIVIDING e

  target : c.level + 1 ≤ level_for s c.size
  target = omega arith

  parted : Family s T.pool.states c.level c.block (split s)
  parted =
      record {
        long = (facts g.sound).pool.long;
        level = omega (arith, target, level_for-inside s c.size (limits s g.sound.shape).levels.0);
        block = (hand-placed g used).1;
        wide = split-wide s;
      }

  was : state_at s T.pool.states c.level c.block ≡ ALLOCATING
  was = allocating g e

  none : (j : ℕ) → j < parts s → state_at s T.pool.states (c.level + 1) (parts s * c.block + j) ≡ NOEXIST
  none j h =
      parts_none s T.pool.states (facts g.sound).pool.parts c.level c.block j parted.level parted.block h
      (λ q. omega (arith, was))

  alike-split :
      (τ : ℕ → Bool) → τ DIVIDED ≡ τ ALLOCATING → τ ALLOCATING ≡ τ NOEXIST → τ FREE ≡ τ NOEXIST → (i : ℕ) →
      τ (get_or (family s T.pool.states c.level c.block DIVIDED (split s)) i 0) ≡ τ (get_or T.pool.states i 0)
  alike-split τ p q r =
      family-alike parted DIVIDED τ (p ∙ ap τ (sym was))
      (λ j h. split-test s τ (τ NOEXIST) q r j h ∙ ap τ (sym (none j h)))

  -- the parts behind the first join the list
  relists :
      Relists s T.pool.lists c.level c.block (split s)
      (free_list s T.pool.lists (c.level + 1) ++ up_from (parts s * c.block + 1) (parts s - 1))
  relists =
      record {
        part = λ j h. times-append (parts s * c.block + j) (free_list s T.pool.lists (c.level + 1)) _ ∙ part j h;
        rest = λ a h n.
            times-append a (free_list s T.pool.lists (c.level + 1)) _
            ∙ omega (arith, outside a (apart a n (dec_lt a (parts s * c.block + 1)) (dec_lt a (parts s * c.block + parts s))));
        others = λ a h.
            times-append a (free_list s T.pool.lists (c.level + 1)) _
            ∙ omega (arith, here.others a h, outside a (inr (behind a h)));
      }
    where
      here : Lists s T.pool.states (c.level + 1) (free_list s T.pool.lists (c.level + 1))
      here = listed_at (listing (facts g.sound).pool) (c.level + 1) parted.level

      outside :
          (a : ℕ) → (a < parts s * c.block + 1) ⊎ (parts s * c.block + 1 + (parts s - 1) ≤ a) →
          times a (up_from (parts s * c.block + 1) (parts s - 1)) ≡ 0
      outside a w = times-outside a (parts s * c.block + 1) (parts s - 1) w

      behind : (a : ℕ) → count s (c.level + 1) ≤ a → parts s * c.block + 1 + (parts s - 1) ≤ a
      behind a h =
          omega (
            arith,
            parts-pos s,
            part-inside s c.level c.block (parts s - 1) parted.block (omega (arith, parts-pos s)),
          )

      apart :
          (a : ℕ) → (a / parts s ≡ c.block → ⊥) → Dec (a < parts s * c.block + 1) → Dec (a < parts s * c.block + parts s) →
          (a < parts s * c.block + 1) ⊎ (parts s * c.block + 1 + (parts s - 1) ≤ a)
      apart a n (yes p) q = inl p
      apart a n (no p) (no q) = inr (omega (arith, parts-pos s))
      apart a n (no p) (yes q) =
          let w : a ≡ parts s * c.block + (a - parts s * c.block) = omega arith in
          absurd
          (n (ap (λ (x : ℕ). x / parts s) w ∙ part_of (parts s) c.block (a - parts s * c.block) (omega arith)))

      unlisted : (j : ℕ) → j < parts s → times (parts s * c.block + j) (free_list s T.pool.lists (c.level + 1)) ≡ 0
      unlisted j h =
          here.each (parts s * c.block + j) (part-inside s c.level c.block j parted.block h)
          ∙ ap (λ (x : ℕ). bit (eqb x FREE)) (none j h)

      part :
          (j : ℕ) → j < parts s →
          times (parts s * c.block + j) (free_list s T.pool.lists (c.level + 1))
          + times (parts s * c.block + j) (up_from (parts s * c.block + 1) (parts s - 1))
          ≡ bit (eqb (get_or (split s) j 0) FREE)
      part zero h = omega (arith, unlisted 0 h, outside (parts s * c.block + 0) (inl (omega arith)))
      part (suc j) h =
          omega (
            arith,
            unlisted (suc j) h,
            times-among (parts s * c.block + suc j) (parts s * c.block + 1) (parts s - 1) (omega arith) (omega arith),
            ap (λ (x : ℕ). bit (eqb x FREE)) (split-later s j h),
          )

  -- the block leaves the hand, and its first part comes into it
  passed : HandsPassed s T.pool.states c.level c.block DIVIDED (split s) c (first s c) ALLOCATING dividing
  passed =
      record {
        here =
            rw (
              was,
              hand-there dividing c.level c.block c (eq-eqb _ _ e) refl refl,
              hand-elsewhere dividing c.level c.block (first s c) (λ p q. omega arith),
            );
        part = λ j h.
            rw (none j h, hand-elsewhere dividing (c.level + 1) (parts s * c.block + j) c (λ p q. omega arith)) (part j h);
        rest = λ m a d.
            hand-elsewhere dividing m a c (λ p q. d.0 (sym p) (sym q))
            ∙ sym
            (hand-elsewhere dividing m a (first s c)
            (λ p q. d.1 (sym p) (ap (λ (x : ℕ). x / parts s) (sym q) ∙ mul-div_right c.block (parts-pos s))));
      }
    where
      part :
          (j : ℕ) → j < parts s →
          bit (eqb (get_or (split s) j 0) ALLOCATING) + 0
          ≡ 0 + bit (in_hand dividing (c.level + 1) (parts s * c.block + j) (first s c))
      part zero h = rw (hand-there dividing (c.level + 1) (parts s * c.block + 0) (first s c) refl refl (omega arith))
      part (suc j) h =
          rw (
            split-later s j h,
            hand-elsewhere dividing (c.level + 1) (parts s * c.block + suc j) (first s c) (λ p q. omega arith),
          )

  pub split-kept : Facts s (split_step s T t c).after
  unfolding split_step size_kept
  split-kept =
      family-kept g
      (record {
        parted = parted;
        known = alike-split (λ x. leb x 5) refl refl refl;
        owned = alike-split (λ x. eqb x ALLOCATED) refl refl refl;
        exists = ap (λ (x : ℕ). eqb x NOEXIST) (sym was);
        undivided = λ j h.
            split-test s (λ x. eqb x DIVIDED) false refl refl j h ∙ ap (λ (x : ℕ). eqb x DIVIDED) (sym (none j h));
        made = split-test s (λ x. not (eqb x NOEXIST)) true refl refl;
        free = ap (λ (x : ℕ). eqb x FREE) (sym was);
        unmerged = every-not (parts s) _ 0 (parts-pos s) refl;
        listing = listing-family parted DIVIDED (listing (facts g.sound).pool) relists (ap (λ (x : ℕ). eqb x FREE) (sym was));
        hands =
            record {
              allocating = hands-family g parted passed (facts g.sound).hands.allocating;
              freeing =
                  hands-after g FREEING releasing (first s c) _ (facts g.sound).hands.freeing
                  (λ m a i h.
                  rw (
                    alike-split (λ x. eqb x FREEING) refl refl refl (place s m a),
                    not-in-hand releasing m a c (rw e),
                  ));
            };
        ready = λ n. omega arith;
        kept =
            dividing-kept s T.threads.device.clock c.size (c.level + 1) (parts s * c.block) parted.level
            (omega (arith, part-inside s c.level c.block 0 parted.block (parts-pos s)))
            target
            (leb-true _ _ (own-facts g).size);
      })
