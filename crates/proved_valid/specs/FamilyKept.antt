-- A block and its parts change state, and the running thread's call with them: the tables stay kept.
-- Assumes nothing.
use Rattle.std.specs.Prelude.{◌≡◌, true, false, not, Bool, List, ℕ, ◌+◌, ◌*◌, ◌<◌, get_or, leb, eqb}
use Rattle.laws.specs.Tests.{bit, every}
use Rattle.shape.specs.declared.Shape.{Shape}
use Rattle.shape.specs.Limits.{parts}
use Rattle.shape.specs.Blocks.{count}
use Rattle.rules.specs.declared.Call.{Call}
use Rattle.rules.specs.Numbers.{ALLOCATED, FREE, DIVIDED, NOEXIST, WAITING}
use Rattle.rules.specs.Tables.{State, state, state_at, put_call}
use Rattle.rules.specs.Valid.{in_hand, one_to_one, call_kept}
use Rattle.facts.specs.Running.{Running}
use Rattle.proved_valid.specs.Lines.{Facts, facts}
use Rattle.proved_valid.specs.States.{Alike, known_alike, owners-alike}
use Rattle.proved_valid.specs.FreeLists.{Listing}
use Rattle.proved_valid.specs.Runs.{hands-after, threads-after}
use Rattle.proved_valid.specs.Family.{Family, Elsewhere, by-family, family, family-long, family-own, family-part, family-rest}
use Rattle.proved_valid.specs.FamilyLines.{tops-family, parts-family, deepest-family, merged-family}
use Rattle.facts.specs.Lines.{HandsFacts}

-- blocks stay one to one to calls where they do at the block, at each part and elsewhere
pub record HandsPassed (s : Shape) (states : List ℕ) (l b own : ℕ) (vs : List ℕ) (c d : Call) (st : ℕ) (test : Call → Bool) : Type 0 where
  pub here : bit (eqb own st) + bit (in_hand test l b c) ≡ bit (eqb (state_at s states l b) st) + bit (in_hand test l b d)
  pub part :
      (j : ℕ) → j < parts s →
      bit (eqb (get_or vs j 0) st) + bit (in_hand test (l + 1) (parts s * b + j) c)
      ≡ bit (eqb (state_at s states (l + 1) (parts s * b + j)) st) + bit (in_hand test (l + 1) (parts s * b + j) d)
  pub rest : (m a : ℕ) → Elsewhere s l b m a → in_hand test m a c ≡ in_hand test m a d

-- what the block and its parts become, the call afterwards, and what is said of the lists that go with it
pub record Change (s : Shape) (T : State) (t : ℕ) (d : Call) (l b own : ℕ) (vs lists : List ℕ) : Type 0 where
  pub parted : Family s T.pool.states l b vs
  pub known : Alike (λ x. leb x 5) T.pool.states (family s T.pool.states l b own vs)
  pub owned : Alike (λ x. eqb x ALLOCATED) T.pool.states (family s T.pool.states l b own vs)
  pub exists : eqb own NOEXIST ≡ eqb (state_at s T.pool.states l b) NOEXIST
  pub undivided :
      (j : ℕ) → j < parts s → eqb (get_or vs j 0) DIVIDED ≡ eqb (state_at s T.pool.states (l + 1) (parts s * b + j)) DIVIDED
  pub made : (j : ℕ) → j < parts s → not (eqb (get_or vs j 0) NOEXIST) ≡ eqb own DIVIDED
  pub free : eqb own FREE ≡ eqb (state_at s T.pool.states l b) FREE
  pub unmerged : every (parts s) (λ j. eqb (get_or vs j 0) FREE) ≡ false
  pub listing : Listing s (family s T.pool.states l b own vs) lists
  pub hands : HandsFacts s (family s T.pool.states l b own vs) (put_call T.threads.calls t d)
  pub ready : d.stage ≡ WAITING → ⊥
  pub kept : call_kept s T.threads.device.clock d ≡ true

module _ {s : Shape} {T : State} {t : ℕ} {c : Call} (g : Running s T t c) where
  pub hands-family :
      {d : Call} {l b own : ℕ} {vs : List ℕ} {st : ℕ} {test : Call → Bool} → Family s T.pool.states l b vs →
      HandsPassed s T.pool.states l b own vs c d st test → one_to_one st test s T.pool.states T.threads.calls ≡ true →
      one_to_one st test s (family s T.pool.states l b own vs) (put_call T.threads.calls t d) ≡ true
  hands-family {d} {l} {b} {own} {vs} {st} {test} f p k =
      hands-after g st test d (family s T.pool.states l b own vs) k (λ m a i h. at m a h)
    where
      at :
          (m a : ℕ) → a < count s m →
          bit (eqb (state_at s (family s T.pool.states l b own vs) m a) st) + bit (in_hand test m a c)
          ≡ bit (eqb (state_at s T.pool.states m a) st) + bit (in_hand test m a d)
      at =
          by-family s l b _ (λ h. rw (family-own f own) p.here)
          (λ j i h. rw (family-part f own j i) (p.part j i))
          (λ m a w h. rw (family-rest f own m a h w, p.rest m a w))

  pub family-kept :
      {d : Call} {l b own : ℕ} {vs lists : List ℕ} → Change s T t d l b own vs lists →
      Facts s (state (family s T.pool.states l b own vs) T.pool.owners lists (put_call T.threads.calls t d) T.threads.queue T.threads.device)
  family-kept {d} {l} {b} {own} {vs} m =
      record {
        pool =
            record {
              long = family-long m.parted own;
              owners_long = (facts g.sound).pool.owners_long;
              lists_long = m.listing.long;
              known = known_alike s T.pool.states _ m.known (facts g.sound).pool.known;
              owned = owners-alike s T.pool.states _ T.pool.owners m.owned (facts g.sound).pool.owned;
              tops = tops-family m.parted own m.exists (facts g.sound).pool.tops;
              parts = parts-family m.parted own m.exists m.undivided m.made (facts g.sound).pool.parts;
              deepest = deepest-family m.parted own m.undivided (facts g.sound).pool.deepest;
              merged = merged-family m.parted own m.free m.unmerged (facts g.sound).pool.merged;
              ends = m.listing.ends;
              listed = m.listing.listed;
            };
        threads = threads-after g d m.ready m.kept;
        hands = m.hands;
      }
