-- Integrity: no step of one thread changes the state or the owner of a block that another thread holds, and no two held blocks share a
-- byte.
-- Assumes nothing.
use Rattle.std.specs.Prelude.{Ok, ◌≡◌, true, not, ℕ, ◌+◌, ◌-◌, ◌/◌, ◌<◌, set, length, eqb, List, [], ◌∷◌}
use Rattle.std.proofs.Math.Path.{refl, sym, ap}
use Rattle.std.proofs.Common.{◌∙◌, ap₂, arith, eqb-true, ne_eqb}
use Rattle.std.proofs.Math.Decide.{dec_lt}
use Rattle.std.proofs.Math.ListN.{get_or, get_or-eq_default}
use Rattle.std.proofs.Math.Seq.{get_or-set_other, get_or-set_same}
use Rattle.laws.specs.Tests.{every-at, both}
use Rattle.rules.specs.declared.Answer.TheVariants.{Granted}
use Rattle.shape.specs.declared.Shape.{Shape}
use Rattle.shape.specs.Limits.{allowed}
use Rattle.shape.specs.Blocks.{size, count, bytes, place, blocks, id_level, id_block, id}
use Rattle.shape.specs.Laws.{Limits, limits, place_inside}
use Rattle.shape.specs.Offsets.{size-some}
use Rattle.rules.specs.declared.Call.{Call}
use Rattle.rules.specs.Numbers.{ALLOCATED, DIVIDING}
use Rattle.rules.specs.Tables.{State, state_at}
use Rattle.rules.specs.Valid.{owners_known, valid}
use Rattle.rules.specs.Steps.{Outcome, take_from, split_step, grant_step, merge_step, settle_step}
use Rattle.rules.specs.Questions.{cover_level}
use Rattle.proved_bytes.specs.Bytes.{HasByte, lies_in, byte_inside}
use Rattle.proved_bytes.proofs.Cover.{cover_one}
use Rattle.facts.specs.Lines.{Sound}
use Rattle.history.specs.History.{Step, Build, GoOn, step_on, Give}
use Rattle.proved_valid.specs.Lines.{Facts, facts}
use Rattle.proved_valid.specs.Histories.{steps-valid}
use Rattle.history.specs.Walk.{EachGoOn, EachStep}
use Rattle.history.proofs.Walk.{each_step}
use Rattle.facts.specs.Running.{Running, allocating, hand-placed, uses-block}
use Rattle.facts.specs.Stage.{alike}
use Rattle.facts.specs.Given.{length-facts}
use Rattle.rules.specs.Calls.{go_on}

-- thread u holds the block at place k
abbrev pub Holds : State → ℕ → ℕ → Type 0
Holds T u k = (get_or T.pool.states k 0 ≡ ALLOCATED) × (get_or T.pool.owners k 0 ≡ u + 1)

-- thread u gives back the block at place k
abbrev pub GivesBack : Shape → ℕ → ℕ → Step → Type 0
GivesBack s u k x = (i : ℕ) × (x ≡ Give u i) × (place s (id_level i) (id_block i) ≡ k)

-- where the step isn't that, nor build, the owner stays
abbrev OwnerStays : Shape → ℕ → ℕ → Step → Outcome → Type 0
OwnerStays s u k x o = (GivesBack s u k x → ⊥) → (x ≡ Build → ⊥) → get_or o.after.pool.owners k 0 ≡ u + 1

module _ (s : Shape) (T : State) (u k : ℕ) (w : Holds T u k) where
  -- the block that is granted was ALLOCATING
  go-on-owner : (t : ℕ) (c : Call) → Running s T t c → EachGoOn (OwnerStays s u k (GoOn t)) s T t c
  unfolding take_from split_step grant_step merge_step settle_step
  go-on-owner t c g =
      record {
        ends = λ r e a _ _. w.1;
        finds = λ l a q _ _. w.1;
        blocks = λ a n d _ _. w.1;
        again = λ f _ _. w.1;
        takes = λ b bs f q _ _. w.1;
        splits = λ d h _ _. w.1;
        grants = λ d h _ _. get_or-set_other T.pool.owners (place s c.level c.block) k (t + 1) 0 (elsewhere d) ∙ w.1;
        settles = λ r e _ _. w.1;
        merges = λ r e _ _. w.1;
      }
    where
      elsewhere : c.stage ≡ DIVIDING → k ≡ place s c.level c.block → ⊥
      elsewhere d q = omega (arith, sym w.0 ∙ ap (λ (n : ℕ). get_or T.pool.states n 0) q ∙ allocating g d)

  -- the block that is given back was the giver's
  given-other :
      (t i : ℕ) → get_or T.pool.owners (place s (id_level i) (id_block i)) 0 ≡ t + 1 → (GivesBack s u k (Give t i) → ⊥) →
      get_or (set T.pool.owners (place s (id_level i) (id_block i)) 0) k 0 ≡ u + 1
  given-other t i o n =
      get_or-set_other T.pool.owners (place s (id_level i) (id_block i)) k 0 0
      (λ q. n (i, ap (λ (v : ℕ). Give v i) (same q), sym q))
      ∙ w.1
    where
      same : k ≡ place s (id_level i) (id_block i) → t ≡ u
      same q = omega (arith, sym o ∙ ap (λ (m : ℕ). get_or T.pool.owners m 0) (sym q) ∙ w.1)

  each-owner : EachStep (OwnerStays s u k) s T
  each-owner =
      record {
        stays = λ x r e u _ _. w.1;
        builds = λ a _ n. absurd (n refl);
        asks = λ t size ms g o h _ _. w.1;
        goes = λ t g. go-on-owner t _ g;
        gives = λ t i g c p a o n _. given-other t i o n;
        switches = λ t h r _ _. w.1;
        ticks = λ v _ _. w.1;
        whole = λ _ _. w.1;
        not-whole = λ _ _. w.1;
      }

-- a place with an owner holds a block that is ALLOCATED
owned-allocated :
    (s : Shape) (T : State) (u k : ℕ) → Facts s T → get_or T.pool.owners k 0 ≡ u + 1 → get_or T.pool.states k 0 ≡ ALLOCATED
unfolding owners_known
owned-allocated s T u k f e =
    eqb-true _ _
    (alike (eqb (get_or T.pool.states k 0) ALLOCATED) _ (both _ _ (every-at (blocks s) _ f.pool.owned k inside)).0
    ∙ ap not (ne_eqb (get_or T.pool.owners k 0) 0 (λ q. omega (arith, e, q))))
  where
    inside : k < blocks s
    inside = go (dec_lt k (blocks s))
      where
        go : Dec (k < blocks s) → k < blocks s
        go (yes h) = h
        go (no h) = absurd (omega (arith, e, get_or-eq_default T.pool.owners 0 {n = k} (omega (arith, f.pool.owners_long))))

-- what a thread holds it holds after every step but its own give of that block, and build
pub holds-stay :
    (s : Shape) (T : State) (x : Step) (u k : ℕ) → Sound s T → (GivesBack s u k x → ⊥) → (x ≡ Build → ⊥) → Holds T u k →
    Holds (step_on s T x).after u k
holds-stay s T x u k v n m w =
    let owner = each_step (OwnerStays s u k) s T (each-owner s T u k w) x n m in
    (owned-allocated s (step_on s T x).after u k (facts (steps-valid s T x v)) owner, owner)

-- no step of a history gives the block back or builds anew
unfoldable pub KeepsBlock : Shape → ℕ → ℕ → List Step → Type 0
KeepsBlock s u k [] = ◌≡◌ {A = ℕ} 0 0
KeepsBlock s u k (x ∷ xs) = (GivesBack s u k x → ⊥) × (x ≡ Build → ⊥) × KeepsBlock s u k xs

-- who is granted a block holds it
record GrantHolds (s : Shape) (x : Step) (o : Outcome) : Type 0 where
  held : (t i : ℕ) → x ≡ GoOn t → o.answer ≡ Ok (Granted i) → Holds o.after t (place s (id_level i) (id_block i))

module _ (s : Shape) (T : State) (v : Sound s T) where
  other : {x : Step} {o : Outcome} → ((i : ℕ) → o.answer ≡ Ok (Granted i) → ◌≡◌ {A = ℕ} 0 1) → GrantHolds s x o
  other n = record { held = λ t i e q. absurd (omega (arith, n i q)) }

  granting :
      (t : ℕ) (c : Call) → Running s T t c → c.stage ≡ DIVIDING → (u i : ℕ) → GoOn t ≡ GoOn u →
      (grant_step s T t c).answer ≡ Ok (Granted i) → Holds (grant_step s T t c).after u (place s (id_level i) (id_block i))
  unfolding grant_step
  granting t c g d u i e q =
      rw (level, block, same)
      (get_or-set_same T.pool.states at ALLOCATED 0 inside, get_or-set_same T.pool.owners at (t + 1) 0 owned)
    where
      hand : (c.level < s.levels) × (c.block < count s c.level)
      hand = hand-placed g (uses-block c DIVIDING d)

      at : ℕ
      at = place s c.level c.block

      inside : at < length T.pool.states
      inside = omega (arith, place_inside s c.level c.block hand.0 hand.1, (length-facts s T v.lengths).states)

      owned : at < length T.pool.owners
      owned = omega (arith, place_inside s c.level c.block hand.0 hand.1, (length-facts s T v.lengths).owners)

      named : i ≡ id s c.level c.block
      named = cc

      same : u ≡ t
      same = cc

      limit : Limits s
      limit = limits s v.shape

      level : id_level i ≡ c.level
      level = ap id_level named ∙ omega (arith, hand.0, limit.levels.1, limit.pool)

      block : id_block i ≡ c.block
      block = ap id_block named ∙ omega (arith, hand.0, limit.levels.1, limit.pool)

  granted-on : (t : ℕ) (c : Call) → Running s T t c → EachGoOn (GrantHolds s (GoOn t)) s T t c
  unfolding take_from split_step merge_step settle_step
  granted-on t c g =
      record {
        ends = λ r e a. other (λ i q. cc);
        finds = λ l a q. other (λ i q. cc);
        blocks = λ a n d. other (λ i q. cc);
        again = λ f. other (λ i q. cc);
        takes = λ b bs f q. other (λ i q. cc);
        splits = λ d h. other (λ i q. cc);
        grants = λ d h. record { held = granting t c g d };
        settles = λ r e. other (λ i q. cc);
        merges = λ r e. other (λ i q. cc);
      }

  pub granted-holds :
      (t i : ℕ) → (go_on s T t).answer ≡ Ok (Granted i) → Holds (go_on s T t).after t (place s (id_level i) (id_block i))
  unfolding step_on
  granted-holds t i e =
      (each_step (GrantHolds s) s T
      (record {
        stays = λ x r e u. other (λ i q. cc);
        builds = λ a. other (λ i q. cc);
        asks = λ t size ms g o h. other (λ i q. cc);
        goes = λ t g. granted-on t _ g;
        gives = λ t i g o p a w. other (λ i q. cc);
        switches = λ t h w. other (λ i q. cc);
        ticks = λ v. other (λ i q. cc);
        whole = other (λ i q. cc);
        not-whole = other (λ i q. cc);
      })
      (GoOn t)).held t i refl e

-- thread u holds block b of level l
abbrev pub HoldsBlock : Shape → State → ℕ → ℕ → ℕ → Type 0
HoldsBlock s T u l b = (l < s.levels) × (b < count s l) × Holds T u (place s l b)

-- held blocks that share a byte are one block, held by one thread
pub held-apart :
    (s : Shape) (T : State) (u v l b m d y : ℕ) → allowed s ≡ true → valid s T ≡ true → HoldsBlock s T u l b →
    HoldsBlock s T v m d → HasByte s l b y → HasByte s m d y → (l ≡ m) × (b ≡ d) × (u ≡ v)
held-apart s T u v l b m d y a e p q h k = (level-same, block_same, omega (arith, owner-same))
  where
    limit : Limits s
    limit = limits s a

    over : (l b : ℕ) → l < s.levels → HasByte s l b y → y / size s l ≡ b
    over l b i h = (lies_in s l b y (size-some s l limit i)).1 h

    inside : y < bytes s
    inside = byte_inside s l b y limit p.0 p.1 h.1

    level :
        (l b : ℕ) → l < s.levels → HasByte s l b y → state_at s T.pool.states l b ≡ ALLOCATED →
        l ≡ cover_level s T.pool.states y (s.levels - 1)
    level l b i h z = (cover_one s T a e y inside).once l i (rw (over l b i h, z) refl)

    level-same : l ≡ m
    level-same = level l b p.0 h p.2.0 ∙ sym (level m d q.0 k q.2.0)

    block_same : b ≡ d
    block_same = sym (over l b p.0 h) ∙ ap (λ (i : ℕ). y / size s i) level-same ∙ over m d q.0 k

    owner-same : u + 1 ≡ v + 1
    owner-same =
        sym p.2.1 ∙ ap₂ (λ (i j : ℕ). get_or T.pool.owners (place s i j) 0) level-same block_same ∙ q.2.1
