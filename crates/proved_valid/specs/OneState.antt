-- One block's state changes: the tests that tell the two states apart change there, and no other.
-- Assumes nothing.
use Rattle.std.specs.Prelude.{◌≡◌, refl, true, false, not, ◌&&◌, ◌≢◌, List, length, get_or, set, eqb}
use Rattle.std.proofs.Common.{sym, ◌∙◌, ap, arith, length-set, get_or-set_same, get_or-set_other, eq-eqb, ne_eqb}
use Rattle.std.proofs.Math.Bool.{Bool, beq}
use Prim.Native.Nat.{ℕ, ◌+◌, ◌<◌}
use Rattle.std.proofs.Math.Decide.{ℕ_discrete}
use Rattle.std.proofs.Math.Dec.{leb}
use Rattle.laws.specs.Tests.{bit, every-at, every_of}
use Rattle.laws.specs.Changes.{set-test, set-count}
use Rattle.shape.specs.declared.Shape.{Shape}
use Rattle.shape.specs.Blocks.{count, place, blocks}
use Rattle.shape.specs.Laws.{place-once, place_inside}
use Rattle.rules.specs.Numbers.{ALLOCATED, FREE}
use Rattle.rules.specs.Tables.{state_at}
use Rattle.rules.specs.Valid.{owners_known}
use Rattle.proved_valid.specs.States.{Alike}

-- two blocks are one where their places are
pub place-eqb :
    (s : Shape) (l b m a : ℕ) → b < count s l → a < count s m → (eqb m l && eqb a b) ≡ eqb (place s l b) (place s m a)
place-eqb s l b m a h k = go (ℕ_discrete m l) (ℕ_discrete a b)
  where
    go : Dec (m ≡ l) → Dec (a ≡ b) → (eqb m l && eqb a b) ≡ eqb (place s l b) (place s m a)
    go (yes p) (yes q) = rw (p, q, eq-eqb l l refl, eq-eqb b b refl, eq-eqb (place s l b) (place s l b) refl)
    go (yes p) (no q) =
        rw (eq-eqb m l p, ne_eqb a b q)
        (sym (ne_eqb (place s l b) (place s m a) (λ e. q (sym (place-once s l b m a h k e).1))))
    go (no p) q =
        rw (ne_eqb m l p) (sym (ne_eqb (place s l b) (place s m a) (λ e. p (sym (place-once s l b m a h k e).0))))

-- blocks of one level by their numbers
pub level-eqb : (s : Shape) (l a b : ℕ) → eqb (place s l a) (place s l b) ≡ eqb a b
level-eqb s l a b = go (ℕ_discrete a b)
  where
    go : Dec (a ≡ b) → eqb (place s l a) (place s l b) ≡ eqb a b
    go (yes q) = rw (eq-eqb a b q) (eq-eqb (place s l a) (place s l b) (omega arith))
    go (no q) = rw (ne_eqb a b q) (ne_eqb (place s l a) (place s l b) (omega arith))

-- block b of level l is a block of the shape, in state x
pub record Stands (s : Shape) (states : List ℕ) (l b x : ℕ) : Type 0 where
  pub long : length states ≡ blocks s
  pub level : l < s.levels
  pub block : b < count s l
  pub was : state_at s states l b ≡ x

-- it turns to state v
abbrev pub turn : Shape → List ℕ → ℕ → ℕ → ℕ → List ℕ
turn s states l b v = set states (place s l b) v

module _ {s : Shape} {states : List ℕ} {l b x : ℕ} (h : Stands s states l b x) (v : ℕ) where
  inside : place s l b < length states
  inside = rw h.long (place_inside s l b h.level h.block)

  pub long-turn : length (turn s states l b v) ≡ blocks s
  long-turn = length-set states (place s l b) v ∙ h.long

  pub alike-turn : (τ : ℕ → Bool) → τ v ≡ τ x → Alike τ states (turn s states l b v)
  alike-turn τ e = set-test τ states (place s l b) v (e ∙ ap τ (sym h.was))

  pub count_turn :
      (τ : ℕ → Bool) (i : ℕ) →
      bit (τ (get_or (turn s states l b v) i 0)) + bit (τ x && eqb i (place s l b))
      ≡ bit (τ (get_or states i 0)) + bit (τ v && eqb i (place s l b))
  count_turn τ i = set-count τ states (place s l b) v x inside h.was i

  -- none becomes FREE
  pub less-turn :
      eqb v FREE ≡ false → (i : ℕ) → eqb (get_or (turn s states l b v) i 0) FREE ≡ true → eqb (get_or states i 0) FREE ≡ true
  less-turn e i q = raised (eqb (get_or states i 0) FREE) _ (rw (q, e) at (count_turn (λ n. eqb n FREE) i))
    where
      raised : (f : Bool) (n : ℕ) → 1 + n ≡ bit f + 0 → f ≡ true
      raised true n p = refl
      raised false n p = absurd (omega arith)

  -- blocks of other levels stay
  pub other-level : (m a : ℕ) → m ≢ l → a < count s m → state_at s (turn s states l b v) m a ≡ state_at s states m a
  other-level m a d i =
      get_or-set_other states (place s l b) (place s m a) v 0 (λ q. d (place-once s m a l b i h.block q).0)

  -- its owner changes with it
  pub owners-turn :
      (owners : List ℕ) (o : ℕ) → length owners ≡ blocks s →
      (beq (eqb v ALLOCATED) (not (eqb o 0)) && leb o s.threads) ≡ true → owners_known s states owners ≡ true →
      owners_known s (turn s states l b v) (set owners (place s l b) o) ≡ true
  unfolding owners_known
  owners-turn owners o n e k = every_of (blocks s) _ (λ i m. at i m (ℕ_discrete i (place s l b)))
    where
      line : ℕ → ℕ → Bool
      line state owner = beq (eqb state ALLOCATED) (not (eqb owner 0)) && leb owner s.threads

      at :
          (i : ℕ) → i < blocks s → Dec (i ≡ place s l b) →
          line (get_or (turn s states l b v) i 0) (get_or (set owners (place s l b) o) i 0) ≡ true
      at i m (yes q) =
          rw (
            q,
            get_or-set_same states (place s l b) v 0 inside,
            get_or-set_same owners (place s l b) o 0 (rw (n, ← h.long) inside),
          )
          e
      at i m (no q) =
          rw (get_or-set_other states (place s l b) i v 0 q, get_or-set_other owners (place s l b) i o 0 q)
          (every-at (blocks s) _ k i m)
