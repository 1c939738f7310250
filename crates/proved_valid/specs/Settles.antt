-- Settle: the block in hand becomes FREE and is listed, its call closes and everyone who waits wakes; the tables stay kept.
-- Assumes nothing.
use Rattle.std.specs.Prelude.{◌≡◌, refl, ◌||◌, List, [], ◌∷◌, ◌++◌, ℕ, ◌+◌, ◌*◌, ◌-◌, ◌/◌, ◌<◌}
use Rattle.std.proofs.Common.{sym, ◌∙◌, true≢false, le_refl, arith, get_or-set_other, lt-ltb, eq-eqb, ne_eqb}
use Rattle.std.proofs.Math.Path.{ap}
use Rattle.std.proofs.Math.Bool.{true, false, not}
use Rattle.std.proofs.Math.Decide.{ℕ_discrete}
use Rattle.std.proofs.Math.Dec.{ltb, eqb}
use Rattle.std.proofs.lemmas.Bool.{not-true}
use Rattle.laws.specs.Tests.{bit, every, every-at, every_of}
use Rattle.laws.specs.Times.{times-append, times-one}
use Rattle.laws.specs.Changes.{every-less, keep-every, keep-nothing, part_of}
use Rattle.shape.specs.declared.Shape.{Shape}
use Rattle.shape.specs.Limits.{parts}
use Rattle.shape.specs.Blocks.{count, place}
use Rattle.shape.specs.Laws.{place-once}
use Rattle.shape.specs.Sections.{part-inside}
use Rattle.rules.specs.declared.Call.{Call}
use Rattle.rules.specs.Numbers.{ALLOCATED, FREE, FREEING, DIVIDING, RELEASING}
use Rattle.rules.specs.Tables.{State, state_at, free_list, put_list, queue_of}
use Rattle.rules.specs.Valid.{buddies_merged}
use Rattle.rules.specs.Steps.{closed, first_buddy, merges, settle_step}
use Rattle.facts.specs.Running.{Running, uses-block, freeing}
use Rattle.proved_valid.specs.Lines.{Facts, facts}
use Rattle.proved_valid.specs.CallLines.{closed-kept}
use Rattle.proved_valid.specs.States.{owners-alike}
use Rattle.proved_valid.specs.FreeLists.{Lists, listing, listed_at, listing-put}
use Rattle.proved_valid.specs.OneState.{Stands, turn, level-eqb, alike-turn, count_turn, other-level}
use Rattle.proved_valid.specs.Turns.{held, none-held, hand-stands, Turn, turned}
use Rattle.proved_valid.specs.Wakes.{wakes-kept}

-- a block that cannot merge becomes FREE: some buddy of it isn't
module _ (s : Shape) (states : List ℕ) (l b : ℕ) (h : b < count s l) where
  -- blocks at other places stay
  elsewhere :
      (m a : ℕ) → (place s m a ≡ place s l b → ⊥) → eqb (state_at s (turn s states l b FREE) m a) FREE ≡ true →
      eqb (state_at s states m a) FREE ≡ true
  elsewhere m a d q =
      ap (λ (x : ℕ). eqb x FREE) (sym (get_or-set_other states (place s l b) (place s m a) FREE 0 d)) ∙ q

  buddy :
      (j : ℕ) → Dec (first_buddy s b + j ≡ b) → eqb (state_at s (turn s states l b FREE) l (first_buddy s b + j)) FREE ≡ true →
      (eqb (first_buddy s b + j) b || eqb (state_at s states l (first_buddy s b + j)) FREE) ≡ true
  buddy j (yes p) q = rw (eq-eqb (first_buddy s b + j) b p)
  buddy j (no p) q = rw (ne_eqb (first_buddy s b + j) b p) (elsewhere l (first_buddy s b + j) (omega arith) q)

  merged-settled :
      merges s states l b ≡ false → buddies_merged s states ≡ true → buddies_merged s (turn s states l b FREE) ≡ true
  unfolding buddies_merged merges
  merged-settled n e =
      every_of (s.levels - 1) _ (λ m i.
      every_of (count s m) _ (λ a k. ap not (at m a i k (ℕ_discrete (m + 1) l) (ℕ_discrete a (b / parts s)))))
    where
      below :
          ltb 0 l ≡ true →
          every (parts s) (λ j. eqb (first_buddy s b + j) b || eqb (state_at s states l (first_buddy s b + j)) FREE) ≡ false
      below q = rw q at n

      others :
          (m a : ℕ) → m < s.levels - 1 → a < count s m → ((j : ℕ) → j < parts s → m + 1 ≡ l → parts s * a + j ≡ b → ⊥) →
          every (parts s) (λ j. eqb (state_at s (turn s states l b FREE) (m + 1) (parts s * a + j)) FREE) ≡ false
      others m a i k d =
          every-less (parts s) _ _
          (λ j r.
          elsewhere (m + 1) (parts s * a + j)
          (λ p.
          let w = place-once s (m + 1) (parts s * a + j) l b (part-inside s m a j k r) h p in
          d j r w.0 w.1))
          (not-true _ (every-at (count s m) _ (every-at (s.levels - 1) _ e m i) a k))

      at :
          (m a : ℕ) → m < s.levels - 1 → a < count s m → Dec (m + 1 ≡ l) → Dec (a ≡ b / parts s) →
          every (parts s) (λ j. eqb (state_at s (turn s states l b FREE) (m + 1) (parts s * a + j)) FREE) ≡ false
      at m a i k (yes p) (yes q) =
          rw (p, q)
          (every-less (parts s) _ _ (λ j r. buddy j (ℕ_discrete (first_buddy s b + j) b)) (below (lt-ltb 0 l (omega arith))))
      at m a i k (yes p) (no q) =
          others m a i k (λ j r w x. q (sym (part_of (parts s) a j r) ∙ ap (λ (y : ℕ). y / parts s) x))
      at m a i k (no p) q = others m a i k (λ j r w x. p w)

module _ {s : Shape} {T : State} {t : ℕ} {c : Call} (g : Running s T t c) (e : c.stage ≡ RELEASING)
    (n : merges s T.pool.states c.level c.block ≡ false) where
  stands : Stands s T.pool.states c.level c.block FREEING
  stands = hand-stands g FREEING (uses-block c RELEASING e) (freeing g e)

  -- the list with the block at its end names the blocks that are FREE now
  longer :
      Lists s (turn s T.pool.states c.level c.block FREE) c.level
      (free_list s T.pool.lists c.level ++ (c.block ∷ []))
  longer =
      record {
        each = λ a h.
            omega (
              arith,
              here.each a h,
              times-append a (free_list s T.pool.lists c.level) (c.block ∷ []),
              times-one a c.block,
              count_turn stands FREE (λ n. eqb n FREE) (place s c.level a),
              ap bit (level-eqb s c.level a c.block),
            );
        others = λ a h.
            omega (
              arith,
              here.others a h,
              times-append a (free_list s T.pool.lists c.level) (c.block ∷ []),
              times-one a c.block ∙ ap bit (ne_eqb a c.block (omega (arith, stands.block))),
            );
      }
    where
      here : Lists s T.pool.states c.level (free_list s T.pool.lists c.level)
      here = listed_at (listing (facts g.sound).pool) c.level stands.level

  freed :
      Turn s T c closed c.level c.block FREEING FREE T.pool.owners
      (put_list s T.pool.lists c.level (free_list s T.pool.lists c.level ++ (c.block ∷ [])))
  freed =
      record {
        stands = stands;
        known = refl;
        exists = refl;
        undivided = refl;
        merged = merged-settled s T.pool.states c.level c.block stands.block n (facts g.sound).pool.merged;
        owners_long = (facts g.sound).pool.owners_long;
        owned =
            owners-alike s T.pool.states _ T.pool.owners (alike-turn stands FREE (λ n. eqb n ALLOCATED) refl)
            (facts g.sound).pool.owned;
        listing =
            listing-put (listing (facts g.sound).pool) stands.level longer
            (λ m a d i h. ap (λ (n : ℕ). eqb n FREE) (other-level stands FREE m a d h));
        from = held s c stands.block;
        to = none-held s (place s c.level c.block) closed (λ n. omega arith) (λ n. omega arith);
        dividing = (ap (λ (n : ℕ). eqb n DIVIDING) e, refl);
        releasing = (ap (λ (n : ℕ). eqb n RELEASING) e, refl);
        ready = λ n. omega arith;
        kept = closed-kept s T.threads.device.clock;
      }

  pub settle-kept : Facts s (settle_step s T t c).after
  unfolding settle_step
  settle-kept =
      rw (keep-every (queue_of T.threads.queue), keep-nothing (queue_of T.threads.queue)) at
      (wakes-kept (turned g freed) (λ _. true) T.threads.device.clock (le_refl _) (λ u h w d q. absurd (true≢false q)))
