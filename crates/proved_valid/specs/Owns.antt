-- Grant and give back: a block gets its owner, or loses it; the tables stay kept.
-- Assumes nothing.
use Rattle.std.specs.Prelude.{◌≡◌, true, false, not, ◌&&◌, ℕ, ◌+◌, set, leb}
use Rattle.std.proofs.Math.Path.{refl}
use Rattle.std.proofs.Common.{sym, ◌∙◌, ap, arith, length-set, le-leb, ne_eqb}
use Rattle.std.specs.Bool.{beq}
use Rattle.std.proofs.Math.Dec.{eqb}
use Rattle.shape.specs.declared.Shape.{Shape}
use Rattle.shape.specs.Blocks.{place, id_level, id_block}
use Rattle.rules.specs.declared.Call.{Call}
use Rattle.rules.specs.Numbers.{ALLOCATED, FREE, DIVIDED, NOEXIST, FREEING, ALLOCATING, CLOSED, DIVIDING, RELEASING, WAITING}
use Rattle.rules.specs.Tables.{State, state, state_at, put_call}
use Rattle.rules.specs.Valid.{call_kept}
use Rattle.rules.specs.Steps.{closed, holding, grant_step}
use Rattle.facts.specs.Running.{Running, uses-block, allocating}
use Rattle.rules.specs.Calls.{given}
use Rattle.proved_valid.specs.Lines.{Facts, facts}
use Rattle.proved_valid.specs.CallLines.{closed-kept, releasing-kept}
use Rattle.proved_valid.specs.States.{merged-less}
use Rattle.proved_valid.specs.FreeLists.{listing, listing-alike}
use Rattle.proved_valid.specs.OneState.{Stands, turn, alike-turn, less-turn, owners-turn}
use Rattle.proved_valid.specs.Turns.{Held, held, none-held, hand-stands, turned}
use Rattle.rules.specs.Refusals.{id_outside}
use Rattle.facts.specs.Verdict.{id-inside}

-- a block that is FREE neither before nor after turns with its owner: no list changes
owner-turns :
    {s : Shape} {T : State} {t : ℕ} {c : Call} → Running s T t c → (d : Call) (l b x v o : ℕ) → Stands s T.pool.states l b x →
    (leb v 5 ≡ leb x 5) × (eqb v NOEXIST ≡ eqb x NOEXIST) × (eqb v DIVIDED ≡ eqb x DIVIDED) →
    (eqb v FREE ≡ false) × (eqb x FREE ≡ false) →
    (beq (eqb v ALLOCATED) (not (eqb o 0)) && leb o s.threads) ≡ true →
    Held s (place s l b) c × Held s (place s l b) d →
    (eqb c.stage DIVIDING ≡ eqb x ALLOCATING) × (eqb d.stage DIVIDING ≡ eqb v ALLOCATING) →
    (eqb c.stage RELEASING ≡ eqb x FREEING) × (eqb d.stage RELEASING ≡ eqb v FREEING) →
    (d.stage ≡ WAITING → ⊥) → call_kept s T.threads.device.clock d ≡ true →
    Facts s
    (state (turn s T.pool.states l b v) (set T.pool.owners (place s l b) o) T.pool.lists (put_call T.threads.calls t d) T.threads.queue
    T.threads.device)
owner-turns {s} {T} g d l b x v o h tests free owner hands dividing releasing ready kept =
    turned g
    (record {
      stands = h;
      known = tests.0;
      exists = tests.1;
      undivided = tests.2;
      merged = merged-less s T.pool.states _ (less-turn h v free.0) (facts g.sound).pool.merged;
      owners_long = length-set T.pool.owners (place s l b) o ∙ (facts g.sound).pool.owners_long;
      owned = owners-turn h v T.pool.owners o (facts g.sound).pool.owners_long owner (facts g.sound).pool.owned;
      listing =
          listing-alike (turn s T.pool.states l b v) (listing (facts g.sound).pool)
          (alike-turn h v (λ k. eqb k FREE) (free.0 ∙ sym free.1));
      from = hands.0;
      to = hands.1;
      dividing = dividing;
      releasing = releasing;
      ready = ready;
      kept = kept;
    })

module _ {s : Shape} {T : State} {t : ℕ} {c : Call} (g : Running s T t c) where
  -- the block in hand is ALLOCATED to the thread, and the call closed
  pub grant-kept : c.stage ≡ DIVIDING → Facts s (grant_step s T t c).after
  unfolding grant_step
  grant-kept e =
      owner-turns g closed c.level c.block ALLOCATING ALLOCATED (t + 1) stands (refl, refl, refl) (refl, refl) owner
      (held s c stands.block, none-held s (place s c.level c.block) closed (λ n. omega arith) (λ n. omega arith))
      (ap (λ (n : ℕ). eqb n DIVIDING) e, refl)
      (ap (λ (n : ℕ). eqb n RELEASING) e, refl)
      (λ n. omega arith)
      (closed-kept s T.threads.device.clock)
    where
      stands : Stands s T.pool.states c.level c.block ALLOCATING
      stands = hand-stands g ALLOCATING (uses-block c DIVIDING e) (allocating g e)

      owner : (beq true (not (eqb (t + 1) 0)) && leb (t + 1) s.threads) ≡ true
      owner = rw (ne_eqb (t + 1) 0 (omega arith), le-leb (t + 1) s.threads (omega (arith, g.thread)))

  -- a block becomes FREEING without owner, and the call releasing
  gives : c.stage ≡ CLOSED → (l b : ℕ) → Stands s T.pool.states l b ALLOCATED → Facts s (given s T t l b)
  gives e l b h =
      owner-turns g (holding RELEASING 0 l b) l b ALLOCATED FREEING 0 h (refl, refl, refl) (refl, refl)
      (le-leb 0 s.threads (omega arith))
      (none-held s (place s l b) c (λ n. omega arith) (λ n. omega arith), held s (holding RELEASING 0 l b) h.block)
      (ap (λ (n : ℕ). eqb n DIVIDING) e, refl)
      (ap (λ (n : ℕ). eqb n RELEASING) e, refl)
      (λ n. omega arith)
      (releasing-kept s T.threads.device.clock l b h.level h.block)

  pub give_kept :
      (i : ℕ) → c.stage ≡ CLOSED → id_outside s i ≡ false → state_at s T.pool.states (id_level i) (id_block i) ≡ ALLOCATED →
      Facts s (given s T t (id_level i) (id_block i))
  give_kept i o p a =
      gives o (id_level i) (id_block i)
      (record { long = (facts g.sound).pool.long; level = (id-inside s i p).0; block = (id-inside s i p).1; was = a })
