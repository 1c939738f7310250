-- A request that may not wait looks once: where there is room it finds a level and takes a block there, else it ends with no room.
-- Assumes nothing.
use Rattle.std.specs.Prelude.{Ok, Err, Some, None, ◌≡◌, List, [], ◌∷◌, ℕ, ◌≤◌, ◌<◌, length, get_or}
use Rattle.std.proofs.Math.Path.{refl, ap}
use Rattle.std.proofs.Common.{sym, ◌∙◌, arith}
use Rattle.shape.specs.declared.Shape.{Shape}
use Rattle.shape.specs.Blocks.{level_for}
use Rattle.shape.specs.Laws.{limits, level_for-inside}
use Rattle.rules.specs.declared.Call.{Call}
use Rattle.rules.specs.declared.Refusal.TheVariants.{NoRoom}
use Rattle.rules.specs.declared.Answer.TheVariants.{Found}
use Rattle.rules.specs.Numbers.{NEVER, FOUND}
use Rattle.rules.specs.Tables.{State, free_list}
use Rattle.facts.specs.Lines.{valid-facts}
use Rattle.facts.specs.Lists.{length-free_list}
use Rattle.facts.specs.Given.{length-facts, list-short}
use Rattle.rules.specs.Steps.{Outcome, outcome, closed, only_call, deepest, no_room, look_at, look, take_from, take_step, go_on_step}
use Rattle.rules.specs.Calls.{go_on}
use Rattle.facts.specs.Running.{Running, goes}
use Rattle.proved_granted.specs.Stepped.{asking, go_on-runs}
use Rattle.proved_granted.specs.Divides.{dividing}

-- a call that may not wait and has found level l
abbrev pub finding : ℕ → ℕ → Call
finding size l = record { stage = FOUND; size = size; wait = NEVER; deadline = 0; level = l; block = 0 }

-- asked: it looks from the level for its size upward
module _ (s : Shape) (T : State) (t size : ℕ) (g : Running s T t (asking size)) where
  pub looks : go_on s T t ≡ look_at s T t (asking size) (deepest T.pool.lists (level_for s size))
  unfolding go_on_step look
  looks = goes g (λ e. omega arith)

  -- with room at no level the call ends, and nothing else changes
  pub looks-nowhere :
      deepest T.pool.lists (level_for s size) ≡ None → go_on s T t ≡ outcome (Err NoRoom) (only_call T t closed)
  unfolding look_at no_room
  looks-nowhere e = looks ∙ rw e

  pub looks-at :
      (l : ℕ) → deepest T.pool.lists (level_for s size) ≡ Some l → go_on s T t ≡ outcome (Ok (Found l)) (only_call T t (finding size l))
  unfolding look_at
  looks-at l e = looks ∙ rw e

  pub at-runs : (l : ℕ) → deepest T.pool.lists (level_for s size) ≡ Some l → Running s (only_call T t (finding size l)) t (finding size l)
  at-runs l e =
      go_on-runs s T t (asking size) g (only_call T t (finding size l)) (finding size l) (ap (λ (o : Outcome). o.after) (looks-at l e)) refl refl

-- found: it takes the first block of the level's list
module _ (s : Shape) (T : State) (t size l : ℕ) (g : Running s T t (finding size l)) where
  pub takes : go_on s T t ≡ take_from s T t (finding size l) (free_list s T.pool.lists l)
  unfolding go_on_step take_step
  takes = goes g (λ e. omega arith)

  pub take_runs :
      (b : ℕ) (bs : List ℕ) → free_list s T.pool.lists l ≡ b ∷ bs →
      Running s (take_from s T t (finding size l) (b ∷ bs)).after t (dividing size l b)
  unfolding take_from
  take_runs b bs e =
      go_on-runs s T t (finding size l) g _ (dividing size l b) (ap (λ (o : Outcome). o.after) (takes ∙ ap (take_from s T t (finding size l)) e)) refl refl

  -- a level that was found has a block
  pub first-listed :
      l ≤ level_for s size → 0 < get_or T.pool.lists l 0 → (b : ℕ) × (bs : List ℕ) × (free_list s T.pool.lists l ≡ b ∷ bs)
  first-listed h k = go (free_list s T.pool.lists l) refl
    where
      inside : l < s.levels
      inside = omega (arith, level_for-inside s size (limits s g.sound.shape).levels.0)

      long : length (free_list s T.pool.lists l) ≡ get_or T.pool.lists l 0
      long =
          length-free_list s T.pool.lists l (length-facts s T g.sound.lengths).lists inside
          (list-short s T.pool.lists (valid-facts s T g.sound.valid).pool.list_ends l inside)

      go : (xs : List ℕ) → free_list s T.pool.lists l ≡ xs → (b : ℕ) × (bs : List ℕ) × (free_list s T.pool.lists l ≡ b ∷ bs)
      go [] e = absurd (omega (arith, sym (ap length e) ∙ long))
      go (b ∷ bs) e = (b, bs, e)
