-- A block turns from one state to another and stays undivided, and the running thread's call turns with it: the tables stay kept.
-- Assumes nothing.
use Rattle.std.specs.Prelude.{◌≡◌, refl, Bool, true, false, ◌&&◌, List, ℕ, ◌<◌, length, leb, eqb}
use Rattle.std.proofs.Common.{◌∙◌, ap, ne_eqb}
use Rattle.shape.specs.declared.Shape.{Shape}
use Rattle.shape.specs.Blocks.{count, place, blocks}
use Rattle.rules.specs.declared.Call.{Call}
use Rattle.rules.specs.Numbers.{DIVIDED, NOEXIST, FREEING, ALLOCATING, DIVIDING, RELEASING, WAITING}
use Rattle.rules.specs.Tables.{State, state, state_at, put_call}
use Rattle.rules.specs.Valid.{uses_block, in_hand, one_to_one, owners_known, buddies_merged, call_kept, dividing, releasing}
use Rattle.facts.specs.Running.{Running, hand-placed}
use Rattle.proved_valid.specs.Lines.{Facts, facts}
use Rattle.proved_valid.specs.States.{known_alike, tops-alike, parts-alike, deepest-alike}
use Rattle.proved_valid.specs.FreeLists.{Listing}
use Rattle.proved_valid.specs.OneState.{Stands, turn, place-eqb, long-turn, alike-turn, count_turn}
use Rattle.proved_valid.specs.Runs.{hands-after, threads-after}

-- the block in hand of a call that passes the test, if any, stands at place k
abbrev HandAt : Shape → (Call → Bool) → ℕ → Call → Type 0
HandAt s test k c = (l b : ℕ) → b < count s l → in_hand test l b c ≡ (test c && eqb (place s l b) k)

-- of either test
abbrev pub Held : Shape → ℕ → Call → Type 0
Held s k c = HandAt s dividing k c × HandAt s releasing k c

pub held : (s : Shape) (c : Call) → c.block < count s c.level → Held s (place s c.level c.block) c
held s c k = (at dividing, at releasing)
  where
    grouped : (x y z : Bool) → ((x && y) && z) ≡ (x && (y && z))
    grouped true y z = refl
    grouped false y z = refl

    at : (test : Call → Bool) → HandAt s test (place s c.level c.block) c
    at test l b h =
        grouped (test c) (eqb c.level l) (eqb c.block b)
        ∙ ap (λ (x : Bool). test c && x) (place-eqb s l b c.level c.block h k)

pub none-held : (s : Shape) (k : ℕ) (c : Call) → (c.stage ≡ DIVIDING → ⊥) → (c.stage ≡ RELEASING → ⊥) → Held s k c
none-held s k c m n = (λ l b h. rw (ne_eqb _ _ m), λ l b h. rw (ne_eqb _ _ n))

-- the block, its two states, the call afterwards, and what is said of the tables that go with it
pub record Turn (s : Shape) (T : State) (c d : Call) (l b x v : ℕ) (owners lists : List ℕ) : Type 0 where
  pub stands : Stands s T.pool.states l b x
  pub known : leb v 5 ≡ leb x 5
  pub exists : eqb v NOEXIST ≡ eqb x NOEXIST
  pub undivided : eqb v DIVIDED ≡ eqb x DIVIDED
  pub merged : buddies_merged s (turn s T.pool.states l b v) ≡ true
  pub owners_long : length owners ≡ blocks s
  pub owned : owners_known s (turn s T.pool.states l b v) owners ≡ true
  pub listing : Listing s (turn s T.pool.states l b v) lists
  pub from : Held s (place s l b) c
  pub to : Held s (place s l b) d
  pub dividing : (eqb c.stage DIVIDING ≡ eqb x ALLOCATING) × (eqb d.stage DIVIDING ≡ eqb v ALLOCATING)
  pub releasing : (eqb c.stage RELEASING ≡ eqb x FREEING) × (eqb d.stage RELEASING ≡ eqb v FREEING)
  pub ready : d.stage ≡ WAITING → ⊥
  pub kept : call_kept s T.threads.device.clock d ≡ true

module _ {s : Shape} {T : State} {t : ℕ} {c : Call} (g : Running s T t c) where
  -- the block in hand is in the state that corresponds to the call's stage
  pub hand-stands :
      (st : ℕ) → uses_block c ≡ true → state_at s T.pool.states c.level c.block ≡ st →
      Stands s T.pool.states c.level c.block st
  hand-stands st u e =
      record { long = (facts g.sound).pool.long; level = (hand-placed g u).0; block = (hand-placed g u).1; was = e }

  -- a state leaves or enters where a call does
  hands-turn :
      {l b x : ℕ} (d : Call) (v st : ℕ) (test : Call → Bool) → Stands s T.pool.states l b x →
      HandAt s test (place s l b) c → HandAt s test (place s l b) d → (test c ≡ eqb x st) × (test d ≡ eqb v st) →
      one_to_one st test s T.pool.states T.threads.calls ≡ true →
      one_to_one st test s (turn s T.pool.states l b v) (put_call T.threads.calls t d) ≡ true
  hands-turn {l} {b} {x} d v st test h hc hd e k =
      hands-after g st test d (turn s T.pool.states l b v) k (λ m a i j.
      rw (hc m a j, hd m a j, e.0, e.1) (count_turn h v (λ n. eqb n st) (place s m a)))

  pub turned :
      {d : Call} {l b x v : ℕ} {owners lists : List ℕ} → Turn s T c d l b x v owners lists →
      Facts s (state (turn s T.pool.states l b v) owners lists (put_call T.threads.calls t d) T.threads.queue T.threads.device)
  turned {d} {l} {b} {x} {v} m =
      record {
        pool =
            record {
              long = long-turn m.stands v;
              owners_long = m.owners_long;
              lists_long = m.listing.long;
              known = known_alike s T.pool.states _ (alike-turn m.stands v (λ n. leb n 5) m.known) (facts g.sound).pool.known;
              owned = m.owned;
              tops =
                  tops-alike s T.pool.states _ (alike-turn m.stands v (λ n. eqb n NOEXIST) m.exists)
                  (facts g.sound).pool.tops;
              parts =
                  parts-alike s T.pool.states _ (alike-turn m.stands v (λ n. eqb n NOEXIST) m.exists)
                  (alike-turn m.stands v (λ n. eqb n DIVIDED) m.undivided)
                  (facts g.sound).pool.parts;
              deepest =
                  deepest-alike s T.pool.states _ (alike-turn m.stands v (λ n. eqb n DIVIDED) m.undivided)
                  (facts g.sound).pool.deepest;
              merged = m.merged;
              ends = m.listing.ends;
              listed = m.listing.listed;
            };
        threads = threads-after g d m.ready m.kept;
        hands =
            record {
              allocating =
                  hands-turn d v ALLOCATING dividing m.stands m.from.0 m.to.0 m.dividing
                  (facts g.sound).hands.allocating;
              freeing =
                  hands-turn d v FREEING releasing m.stands m.from.1 m.to.1 m.releasing
                  (facts g.sound).hands.freeing;
            };
      }
