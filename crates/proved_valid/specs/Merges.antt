-- Merge: the block in hand and its FREE buddies cease to exist, these leave the list, and the parent is in hand; the tables stay kept.
-- Assumes nothing.
use Rattle.std.specs.Prelude.{◌≡◌, refl, Bool, true, not, cond, ◌||◌, ◌⊎◌, List, ℕ, ◌+◌, ◌*◌, ◌-◌, ◌/◌, ◌<◌, get_or, set, replicate, leb, ltb, eqb}
use Rattle.std.proofs.Common.{sym, ◌∙◌, ap, subst, inl, inr, arith, ltb-true, eqb-true, eq-eqb, ne_eqb}
use Rattle.std.proofs.Math.Decide.{ℕ_discrete}
use Rattle.std.proofs.lemmas.List.{length-replicate, get_or-replicate}
use Rattle.std.proofs.lemmas.List.Edits.{sets}
use Rattle.laws.specs.Tests.{bit, every, every-at, every-not, both, either}
use Rattle.laws.specs.Lists.{keep}
use Rattle.laws.specs.Rows.{set_before}
use Rattle.laws.specs.Changes.{cond-zero, times-keep, part_of}
use Rattle.shape.specs.declared.Shape.{Shape}
use Rattle.shape.specs.Limits.{parts}
use Rattle.shape.specs.Blocks.{count, place}
use Rattle.shape.specs.Laws.{parts-pos}
use Rattle.shape.specs.Sections.{levels-apart, parent-inside}
use Rattle.rules.specs.declared.Call.{Call}
use Rattle.rules.specs.Numbers.{ALLOCATED, FREE, DIVIDED, NOEXIST, FREEING, ALLOCATING, RELEASING}
use Rattle.rules.specs.Tables.{State, state, state_at, free_list, put_list, put_call}
use Rattle.rules.specs.Valid.{uses_block, in_hand, dividing, releasing}
use Rattle.rules.specs.Steps.{holding, first_buddy, merges, merge_step}
use Rattle.facts.specs.Stage.{merging}
use Rattle.facts.specs.Running.{Running, uses-block, hand-placed, freeing}
use Rattle.proved_valid.specs.Lines.{Facts, facts}
use Rattle.proved_valid.specs.CallLines.{releasing-kept}
use Rattle.proved_valid.specs.OneCall.{not-in-hand, hand-there, hand-elsewhere}
use Rattle.proved_valid.specs.FreeLists.{listing, listed_at}
use Rattle.proved_valid.specs.Runs.{hands-after}
use Rattle.proved_valid.specs.Family.{Family, family, family-alike}
use Rattle.proved_valid.specs.FamilyLists.{Relists, listing-family}
use Rattle.proved_valid.specs.FamilyKept.{HandsPassed, hands-family, family-kept}

-- what the parts become: none exists any more
abbrev gone : Shape → List ℕ
gone s = replicate (parts s) NOEXIST

gone_at : (s : Shape) (j : ℕ) → j < parts s → get_or (gone s) j 0 ≡ NOEXIST
gone_at s j h = get_or-replicate (parts s) j NOEXIST 0 h

-- the parent of the block in hand
abbrev parent : Shape → Call → ℕ
parent s c = c.block / parts s

-- the list without the parts of block b
abbrev without : Shape → ℕ → List ℕ → List ℕ
without s b xs = keep (λ x. not (eqb (x / parts s) b)) xs

-- what a merge leaves, with the block in hand of level m and its parent of level l
abbrev merged : Shape → State → ℕ → Call → ℕ → ℕ → State
merged s T t c m l =
    state (set (sets T.pool.states (place s m (first_buddy s c.block)) (gone s)) (place s l (parent s c)) FREEING) T.pool.owners
    (put_list s T.pool.lists m (without s (parent s c) (free_list s T.pool.lists m)))
    (put_call T.threads.calls t (holding RELEASING 0 l (parent s c)))
    T.threads.queue
    T.threads.device

-- part j of the parent is the block in hand, which is FREEING, or FREE
abbrev Buddy : Shape → State → Call → ℕ → ℕ → Type 0
Buddy s T c l j =
    ((parts s * parent s c + j ≡ c.block) × (state_at s T.pool.states (l + 1) (parts s * parent s c + j) ≡ FREEING))
    ⊎ ((parts s * parent s c + j ≡ c.block → ⊥) × (state_at s T.pool.states (l + 1) (parts s * parent s c + j) ≡ FREE))

module _ {s : Shape} {T : State} {t : ℕ} {c : Call} (g : Running s T t c) (e : c.stage ≡ RELEASING) (l : ℕ) (q : c.level ≡ l + 1)
    (free :
    every (parts s) (λ j.
    eqb (first_buddy s c.block + j) c.block || eqb (state_at s T.pool.states c.level (first_buddy s c.block + j)) FREE)
    ≡ true) where
  used : uses_block c ≡ true
  used = uses-block c RELEASING e

  mine : c.block < count s (l + 1)
  mine = rw q at (hand-placed g used).1

  own : state_at s T.pool.states (l + 1) c.block ≡ FREEING
  own = rw q at (freeing g e)

  parted : Family s T.pool.states l (parent s c) (gone s)
  parted =
      let n : l + 1 - 1 ≡ l = omega arith in
      record {
        long = (facts g.sound).pool.long;
        level = rw q at (hand-placed g used).0;
        block = rw n at (parent-inside s (l + 1) c.block (omega arith) mine);
        wide = length-replicate (parts s) NOEXIST;
      }

  was : state_at s T.pool.states l (parent s c) ≡ DIVIDED
  was = (merging s T.pool.states (facts g.sound).pool.parts l (l + 1) c.block refl parted.level mine own (rw q at free)).0

  buddy : (j : ℕ) → j < parts s → Buddy s T c l j
  buddy j h = go (ℕ_discrete (first_buddy s c.block + j) c.block) (either _ _ (every-at (parts s) _ (rw q at free) j h))
    where
      go :
          Dec (first_buddy s c.block + j ≡ c.block) →
          (eqb (first_buddy s c.block + j) c.block ≡ true)
          ⊎ (eqb (state_at s T.pool.states (l + 1) (first_buddy s c.block + j)) FREE ≡ true) →
          Buddy s T c l j
      go (yes p) f = inl (p, ap (λ (n : ℕ). state_at s T.pool.states (l + 1) n) p ∙ own)
      go (no p) (inl f) = absurd (p (eqb-true _ _ f))
      go (no p) (inr f) = inr (p, eqb-true _ _ f)

  -- a test that tells neither FREE nor FREEING from what doesn't exist
  part-test :
      (τ : ℕ → Bool) → τ NOEXIST ≡ τ FREEING → τ NOEXIST ≡ τ FREE → (j : ℕ) → j < parts s →
      τ (get_or (gone s) j 0) ≡ τ (state_at s T.pool.states (l + 1) (parts s * parent s c + j))
  part-test τ x y j h = ap τ (gone_at s j h) ∙ go (buddy j h)
    where
      go : Buddy s T c l j → τ NOEXIST ≡ τ (state_at s T.pool.states (l + 1) (parts s * parent s c + j))
      go (inl w) = x ∙ ap τ (sym w.1)
      go (inr w) = y ∙ ap τ (sym w.1)

  alike-merge :
      (τ : ℕ → Bool) → τ FREEING ≡ τ DIVIDED → τ NOEXIST ≡ τ FREEING → τ NOEXIST ≡ τ FREE → (i : ℕ) →
      τ (get_or (family s T.pool.states l (parent s c) FREEING (gone s)) i 0) ≡ τ (get_or T.pool.states i 0)
  alike-merge τ x y z = family-alike parted FREEING τ (x ∙ ap τ (sym was)) (part-test τ y z)

  -- the buddies leave the list
  relists : Relists s T.pool.lists l (parent s c) (gone s) (without s (parent s c) (free_list s T.pool.lists (l + 1)))
  relists =
      record {
        part = λ j h.
            times-keep _ (parts s * parent s c + j) (free_list s T.pool.lists (l + 1))
            ∙ rw (part_of (parts s) (parent s c) j h, eq-eqb (parent s c) _ refl, gone_at s j h);
        rest = λ a h n. times-keep _ a (free_list s T.pool.lists (l + 1)) ∙ rw (ne_eqb (a / parts s) (parent s c) n);
        others = λ a h.
            times-keep _ a (free_list s T.pool.lists (l + 1))
            ∙ ap (λ (n : ℕ). cond (not (eqb (a / parts s) (parent s c))) n 0)
            ((listed_at (listing (facts g.sound).pool) (l + 1) parted.level).others a h)
            ∙ cond-zero (not (eqb (a / parts s) (parent s c)));
      }

  -- the block leaves the hand, and its parent comes into it
  passed :
      HandsPassed s T.pool.states l (parent s c) FREEING (gone s) c (holding RELEASING 0 l (parent s c)) FREEING releasing
  passed =
      record {
        here =
            rw (
              was,
              hand-elsewhere releasing l (parent s c) c (λ x y. omega arith),
              hand-there releasing l (parent s c) (holding RELEASING 0 l (parent s c)) refl refl refl,
            );
        part = λ j h.
            rw (
              gone_at s j h,
              hand-elsewhere releasing (l + 1) (parts s * parent s c + j) (holding RELEASING 0 l (parent s c))
                  (λ x y. omega arith),
            )
            (part j (buddy j h));
        rest = λ m a d.
            hand-elsewhere releasing m a c (λ x y. d.1 (sym x ∙ q) (ap (λ (n : ℕ). n / parts s) (sym y)))
            ∙ sym (hand-elsewhere releasing m a (holding RELEASING 0 l (parent s c)) (λ x y. d.0 (sym x) (sym y)));
      }
    where
      part :
          (j : ℕ) → Buddy s T c l j →
          0 + bit (in_hand releasing (l + 1) (parts s * parent s c + j) c)
          ≡ bit (eqb (state_at s T.pool.states (l + 1) (parts s * parent s c + j)) FREEING) + 0
      part j (inl w) = rw (w.1, hand-there releasing (l + 1) (parts s * parent s c + j) c (eq-eqb _ _ e) q (sym w.0))
      part j (inr w) = rw (w.1, hand-elsewhere releasing (l + 1) (parts s * parent s c + j) c (λ x y. w.0 (sym y)))

  merged-below : Facts s (merged s T t c (l + 1) l)
  merged-below =
      rw (set_before (place s (l + 1) (first_buddy s c.block)) (place s l (parent s c)) FREEING T.pool.states (gone s)
      (omega (arith, parted.block, levels-apart s l (l + 1) (omega arith))))
      (family-kept g
      (record {
        parted = parted;
        known = alike-merge (λ x. leb x 5) refl refl refl;
        owned = alike-merge (λ x. eqb x ALLOCATED) refl refl refl;
        exists = ap (λ (x : ℕ). eqb x NOEXIST) (sym was);
        undivided = part-test (λ x. eqb x DIVIDED) refl refl;
        made = λ j h. ap (λ (x : ℕ). not (eqb x NOEXIST)) (gone_at s j h);
        free = ap (λ (x : ℕ). eqb x FREE) (sym was);
        unmerged = every-not (parts s) _ 0 (parts-pos s) (ap (λ (x : ℕ). eqb x FREE) (gone_at s 0 (parts-pos s)));
        listing = listing-family parted FREEING (listing (facts g.sound).pool) relists (ap (λ (x : ℕ). eqb x FREE) (sym was));
        hands =
            record {
              allocating =
                  hands-after g ALLOCATING dividing (holding RELEASING 0 l (parent s c)) _ (facts g.sound).hands.allocating
                  (λ m a i h.
                  rw (
                    alike-merge (λ x. eqb x ALLOCATING) refl refl refl (place s m a),
                    not-in-hand dividing m a c (rw e),
                  ));
              freeing = hands-family g parted passed (facts g.sound).hands.freeing;
            };
        ready = λ n. omega arith;
        kept = releasing-kept s T.threads.device.clock l (parent s c) (omega (arith, parted.level)) parted.block;
      }))

pub merge-kept :
    {s : Shape} {T : State} {t : ℕ} {c : Call} → Running s T t c → c.stage ≡ RELEASING →
    merges s T.pool.states c.level c.block ≡ true → Facts s (merge_step s T t c).after
unfolding merge_step merges
merge-kept {s} {T} {t} {c} g e k =
    subst (λ (m : ℕ). Facts s (merged s T t c m (c.level - 1))) (sym below)
    (merged-below g e (c.level - 1) below (both (ltb 0 c.level) _ k).1)
  where
    below : c.level ≡ c.level - 1 + 1
    below = omega (arith, ltb-true 0 c.level (both (ltb 0 c.level) _ k).0)
