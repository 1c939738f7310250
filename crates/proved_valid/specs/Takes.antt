-- Found: the first block of the level's list is taken, or the call is asked again; the tables stay kept.
-- Assumes nothing.
use Rattle.std.specs.Prelude.{◌≡◌, List, [], ◌∷◌, ℕ, ◌≤◌, ◌<◌, eqb}
use Rattle.std.proofs.Math.Path.{refl}
use Rattle.std.proofs.Common.{ap, arith}
use Rattle.std.proofs.Math.Decide.{dec_lt}
use borrow.Author.Tests.{leb-true, eq-eqb}
use Rattle.laws.specs.Tests.{bit}
use Rattle.laws.specs.Changes.{implied, times-cons}
use Rattle.shape.specs.declared.Shape.{Shape}
use Rattle.shape.specs.Blocks.{count, place, level_for}
use Rattle.shape.specs.Laws.{limits}
use Rattle.rules.specs.declared.Call.{Call}
use Rattle.rules.specs.Numbers.{ALLOCATED, FREE, ALLOCATING, ASKED, FOUND, DIVIDING, RELEASING}
use Rattle.rules.specs.Tables.{State, free_list, put_list}
use Rattle.rules.specs.Valid.{found_kept}
use Rattle.rules.specs.Steps.{holding, moved, take_from}
use Rattle.facts.specs.Given.{found_inside}
use Rattle.facts.specs.Stage.{listed_free}
use Rattle.facts.specs.Running.{Running, own-facts, uses-block}
use Rattle.proved_valid.specs.Lines.{Facts, facts}
use Rattle.proved_valid.specs.CallLines.{asked-kept, dividing-kept}
use Rattle.proved_valid.specs.States.{merged-less, owners-alike}
use Rattle.proved_valid.specs.FreeLists.{Lists, listing, listed_at, listing-put}
use Rattle.proved_valid.specs.OneState.{Stands, turn, level-eqb, alike-turn, count_turn, less-turn, other-level}
use Rattle.proved_valid.specs.Runs.{asking, only-call}
use Rattle.proved_valid.specs.Turns.{held, none-held, Turn, turned}

module _ {s : Shape} {T : State} {t : ℕ} {c : Call} (g : Running s T t c) (e : c.stage ≡ FOUND) where
  level : c.level < s.levels
  level = found_inside s c (limits s g.sound.shape).levels.0 (own-facts g).found e

  target : c.level ≤ level_for s c.size
  unfolding found_kept
  target = leb-true _ _ (implied (eqb c.stage FOUND) _ (own-facts g).found (eq-eqb _ _ e))

  module _ (b : ℕ) (bs : List ℕ) (q : free_list s T.pool.lists c.level ≡ b ∷ bs) where
    here : Lists s T.pool.states c.level (b ∷ bs)
    here = rw q at (listed_at (listing (facts g.sound).pool) c.level level)

    first : Stands s T.pool.states c.level b FREE
    first =
        record {
          long = (facts g.sound).pool.long;
          level = level;
          block = inside (dec_lt b (count s c.level));
          was = listed_free s T.pool.states T.pool.lists (facts g.sound).pool.listed c.level b bs level q;
        }
      where
        inside : Dec (b < count s c.level) → b < count s c.level
        inside (yes h) = h
        inside (no h) = absurd (omega (arith, here.others b (omega arith), times-cons b b bs, ap bit (eq-eqb b b refl)))

    -- the rest of the list names the blocks that are still FREE
    rest : Lists s (turn s T.pool.states c.level b ALLOCATING) c.level bs
    rest =
        record {
          each = λ a h.
              omega (
                arith,
                here.each a h,
                times-cons a b bs,
                count_turn first ALLOCATING (λ n. eqb n FREE) (place s c.level a),
                ap bit (level-eqb s c.level a b),
              );
          others = λ a h. omega (arith, here.others a h, times-cons a b bs);
        }

    taken :
        Turn s T c (holding DIVIDING c.size c.level b) c.level b FREE ALLOCATING T.pool.owners
        (put_list s T.pool.lists c.level bs)
    taken =
        record {
          stands = first;
          known = refl;
          exists = refl;
          undivided = refl;
          merged = merged-less s T.pool.states _ (less-turn first ALLOCATING refl) (facts g.sound).pool.merged;
          owners_long = (facts g.sound).pool.owners_long;
          owned =
              owners-alike s T.pool.states _ T.pool.owners (alike-turn first ALLOCATING (λ n. eqb n ALLOCATED) refl)
              (facts g.sound).pool.owned;
          listing =
              listing-put (listing (facts g.sound).pool) level rest
              (λ m a d i h. ap (λ (n : ℕ). eqb n FREE) (other-level first ALLOCATING m a d h));
          from = none-held s (place s c.level b) c (λ n. omega arith) (λ n. omega arith);
          to = held s (holding DIVIDING c.size c.level b) first.block;
          dividing = (ap (λ (n : ℕ). eqb n DIVIDING) e, refl);
          releasing = (ap (λ (n : ℕ). eqb n RELEASING) e, refl);
          ready = λ n. omega arith;
          kept =
              dividing-kept s T.threads.device.clock c.size c.level b level first.block target
              (asking g FOUND e refl refl).size;
        }

  -- it is taken
  pub take-kept : (b : ℕ) (bs : List ℕ) → free_list s T.pool.lists c.level ≡ b ∷ bs → Facts s (take_from s T t c (b ∷ bs)).after
  unfolding take_from
  take-kept b bs q = turned g (taken b bs q)

  -- or the list has emptied
  pub again_kept : Facts s (take_from s T t c []).after
  unfolding take_from
  again_kept =
      only-call g (moved c ASKED 0) (uses-block c FOUND e) refl (λ n. omega arith)
      (asked-kept s T.threads.device.clock c (asking g FOUND e refl refl))
