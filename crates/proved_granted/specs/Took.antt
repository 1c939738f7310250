-- Demand 3: the bytes of one free run, as long as the smallest block that fits and at a multiple of that size, stop being free where a request is
-- granted, and no others.
-- Assumes nothing.
use Rattle.std.specs.Prelude.{◌≡◌, refl, true, ◌↔◌, List, ◌∷◌, ℕ, ◌+◌, ◌*◌, ◌/◌, ◌≤◌, ◌<◌}
use Rattle.std.proofs.Common.{sym, ◌∙◌, ap, inl, inr, get_or-set_same}
use mathlib.Core.Logic.Iff
use native.Mathlib.Omega.{arith}
use Rattle.std.proofs.Math.ListN.{length}
use Rattle.shape.specs.declared.Shape.{Shape}
use Rattle.shape.specs.Limits.{parts, allowed}
use Rattle.shape.specs.Blocks.{size, count, offset, place, bytes, level_for}
use Rattle.shape.specs.Laws.{limits, level_for-inside, place_inside}
use Rattle.shape.specs.Offsets.{size-some}
use Rattle.rules.specs.Numbers.{ALLOCATED, ALLOCATING}
use Rattle.rules.specs.Tables.{State, state_at, free_list}
use Rattle.rules.specs.Valid.{valid}
use Rattle.facts.specs.Lines.{valid-facts}
use Rattle.facts.specs.Given.{length-facts, member-inside, parts_none}
use Rattle.rules.specs.Steps.{Outcome, take_from, split_step, grant_step}
use Rattle.facts.specs.Stage.{listed_free}
use Rattle.facts.specs.Running.{Running, hand-placed, allocating}
use Rattle.proved_valid.specs.Splits.{split, split-wide}
use Rattle.proved_bytes.specs.Bytes.{FreeByte, FreeRun, HasByte, lies_in, byte_inside}
use Rattle.proved_bytes.proofs.Cover.{cover_one}
use Rattle.proved_granted.specs.Divides.{dividing, Grant, grant-runs}
use Rattle.proved_granted.specs.Takes.{finding}
use Rattle.proved_granted.specs.Request.{Asks, found}
use Rattle.proved_granted.specs.Bytes.{FreeOr, take-bytes, same_bytes, split-bytes, split-part}

-- a run of free bytes, block b of level l, stopped being free, and no other byte did
pub record Took (s : Shape) (before after : List ℕ) (l b : ℕ) : Type 0 where
  pub block : b < count s l
  pub was : FreeRun s before l b
  pub stops : (y : ℕ) → y < bytes s → FreeByte s after y ↔ (FreeByte s before y × (HasByte s l b y → ⊥))

-- over the bytes of an ALLOCATED block no FREE block lies
not_free :
    (s : Shape) (T : State) → allowed s ≡ true → valid s T ≡ true → (l y : ℕ) → l < s.levels → y < bytes s →
    state_at s T.pool.states l (y / size s l) ≡ ALLOCATED → FreeByte s T.pool.states y → ⊥
not_free s T h v l y q k was (m, i, e) = omega (arith, was, ap (λ (n : ℕ). state_at s T.pool.states n (y / size s n)) same, e)
  where
    same : m ≡ l
    same = (cover_one s T h v y k).once m i (rw e refl) ∙ sym ((cover_one s T h v y k).once l q (rw was refl))

-- a thread with a block in hand: it is a block of the shape, and ALLOCATING
module _ (s : Shape) (T : State) (t wanted l b : ℕ) (g : Running s T t (dividing wanted l b)) where
  placed : (l < s.levels) × (b < count s l)
  placed = hand-placed g refl

  in-hand : state_at s T.pool.states l b ≡ ALLOCATING
  in-hand = allocating g refl

  -- where it is split, the bytes of its first part, and those that are free, are the same together
  split-free :
      l < level_for s wanted → (y : ℕ) → y < bytes s →
      FreeOr s T.pool.states l b y ↔ FreeOr s (split_step s T t (dividing wanted l b)).after.pool.states (l + 1) (parts s * b) y
  unfolding split_step
  split-free h =
      split-bytes s T.pool.states l b (split s) (limits s g.sound.shape) (length-facts s T g.sound.lengths).states level placed.1
      (split-wide s)
      (split-part s)
      (λ e. omega (arith, in-hand))
      (λ j i e.
      omega (
        arith,
        parts_none s T.pool.states (valid-facts s T g.sound.valid).pool.parts_exist l b j level placed.1 i (λ d. omega (arith, in-hand)),
      ))
    where
      level : l + 1 < s.levels
      level = omega (arith, level_for-inside s wanted (limits s g.sound.shape).levels.0)

  -- where it is granted, no byte changes, and its bytes are not free
  grant-free :
      (y : ℕ) → y < bytes s → FreeByte s T.pool.states y ↔ FreeByte s (grant_step s T t (dividing wanted l b)).after.pool.states y
  unfolding grant_step
  grant-free =
      same_bytes s T.pool.states l b ALLOCATED (limits s g.sound.shape) (length-facts s T g.sound.lengths).states placed.0 placed.1
      (λ e. omega arith)
      (λ e. omega (arith, in-hand))

  grant-stops :
      level_for s wanted ≤ l → (y : ℕ) → y < bytes s → y / size s l ≡ b →
      FreeByte s (grant_step s T t (dividing wanted l b)).after.pool.states y → ⊥
  unfolding grant_step
  grant-stops h y k e =
      not_free s (grant_step s T t (dividing wanted l b)).after g.sound.shape (grant-runs s T t wanted l b g h).sound.valid l y placed.0 k
      (rw e (get_or-set_same T.pool.states (place s l b) ALLOCATED 0 inside))
    where
      inside : place s l b < length T.pool.states
      inside = rw (length-facts s T g.sound.lengths).states (place_inside s l b placed.0 placed.1)

module _ (s : Shape) (T : State) (t wanted : ℕ) (a : Asks s T t wanted) where
  -- what was free when it was asked is free, or lies in block b of level l, in hand
  abbrev pub Held : State → ℕ → ℕ → Type 0
  Held U l b = (y : ℕ) → y < bytes s → FreeByte s T.pool.states y ↔ FreeOr s U.pool.states l b y

  pub next :
      (U : State) (l b : ℕ) → Running s U t (dividing wanted l b) → l < level_for s wanted → Held U l b →
      Held (split_step s U t (dividing wanted l b)).after (l + 1) (parts s * b)
  next U l b g h p y k = Iff.trans (p y k) (split-free s U t wanted l b g h y k)

  pub first :
      (l : ℕ) → l < s.levels → (b : ℕ) (bs : List ℕ) → free_list s T.pool.lists l ≡ b ∷ bs →
      Held (take_from s (found T t wanted l) t (finding wanted l) (b ∷ bs)).after l b
  unfolding take_from
  first l h b bs q =
      take-bytes s T.pool.states l b ALLOCATING (limits s a.runs.sound.shape) (length-facts s T a.runs.sound.lengths).states h block
      (λ e. omega arith)
      (listed_free s T.pool.states T.pool.lists (valid-facts s T a.runs.sound.valid).pool.free_listed l b bs h q)
    where
      block : b < count s l
      block =
          rw q at
          (member-inside s T.pool.states T.pool.lists (valid-facts s T a.runs.sound.valid).pool.free_listed l 0 h (rw q (omega arith)))

  -- so once it is granted the bytes of that block have stopped being free, and no others
  pub took :
      (o : Outcome) (r : Grant s t wanted (λ U b. Held U (level_for s wanted) b) o) →
      Took s T.pool.states o.after.pool.states (level_for s wanted) r.block
  took o r =
      record {
        block = block;
        was = λ y i j. (r.held y (inside y j)).1 (inr (lies.1 (i, j)));
        stops = λ y k. (
          λ f. ((r.held y k).1 (inl ((unchanged y k).1 f)), λ w. stopped y k (lies.1 w) f),
          λ (f, n). kept y k n ((r.held y k).0 f),
        );
      }
    where
      level : level_for s wanted < s.levels
      level = level_for-inside s wanted (limits s a.runs.sound.shape).levels.0

      block : r.block < count s (level_for s wanted)
      block = (placed s r.tables t wanted (level_for s wanted) r.block r.runs).1

      lies : {y : ℕ} → (y / size s (level_for s wanted) ≡ r.block) ↔ HasByte s (level_for s wanted) r.block y
      lies {y} = lies_in s (level_for s wanted) r.block y (size-some s (level_for s wanted) (limits s a.runs.sound.shape) level)

      inside : (y : ℕ) → y < offset s (level_for s wanted) (r.block + 1) → y < bytes s
      inside y n = byte_inside s (level_for s wanted) r.block y (limits s a.runs.sound.shape) level block n

      unchanged : (y : ℕ) → y < bytes s → FreeByte s r.tables.pool.states y ↔ FreeByte s o.after.pool.states y
      unchanged = rw r.is (grant-free s r.tables t wanted (level_for s wanted) r.block r.runs)

      stopped : (y : ℕ) → y < bytes s → y / size s (level_for s wanted) ≡ r.block → FreeByte s o.after.pool.states y → ⊥
      stopped = rw r.is (grant-stops s r.tables t wanted (level_for s wanted) r.block r.runs (omega arith))

      kept :
          (y : ℕ) → y < bytes s → (HasByte s (level_for s wanted) r.block y → ⊥) →
          FreeOr s r.tables.pool.states (level_for s wanted) r.block y → FreeByte s o.after.pool.states y
      kept y k n (inl f) = (unchanged y k).0 f
      kept y k n (inr w) = absurd (n (lies.0 w))
