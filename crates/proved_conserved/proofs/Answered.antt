-- The public map: on sound tables it answers the number of undivided existing blocks and writes their ids by address, or refuses a row that
-- is too short. Different blocks have different ids.
-- Assumes nothing.
use Rattle.std.specs.Prelude.{Err, ◌≡◌, refl, List, [], ◌∷◌, map, ℕ, suc, ◌<◌, ◌≤◌, length}
use Rattle.std.proofs.Common.{ap}
use borrow.Author.Tests.{lt-ltb, le-ltb}
use Rattle.shape.specs.declared.Shape.{Shape}
use Rattle.rules.specs.declared.Refusal.TheVariants.{RowTooShort}
use Rattle.rules.specs.Tables.{State}
use Rattle.rules.specs.Questions.{map_outcome, map_row, map_pool}
use Rattle.facts.specs.Lines.{Sound}
use Rattle.facts.specs.Verdict.{passes}
use Rattle.proved_conserved.specs.Pairs.{id_of, map_pairs}
use Rattle.proved_conserved.proofs.Pairs.{ids-pairs}
use Rattle.proved_conserved.proofs.Partition.{map-follows}
use Rattle.proved_conserved.proofs.Each.{map-all, map-once}
use Rattle.proved_conserved.specs.Answered.{MapAnswers}

length-map : (f : ℕ × ℕ → ℕ) (xs : List (ℕ × ℕ)) → length (map f xs) ≡ length xs
length-map f [] = refl
length-map f (x ∷ xs) = ap suc (length-map f xs)

module _ (s : Shape) (T : State) (row : List ℕ) (g : Sound s T) where
  pub map-answers : length (map_pairs s T.pool.states) ≤ length row → MapAnswers s T row
  unfolding map_pool map_row
  map-answers h =
      record {
        blocks = map_pairs s T.pool.states;
        follow = map-follows s T g.shape g.valid;
        every = map-all s T g.shape g.valid;
        once = map-once s T g.shape g.valid;
        answer =
            rw (
              passes g,
              ids-pairs s T.pool.states,
              length-map (id_of s) (map_pairs s T.pool.states),
              le-ltb (length row) (length (map_pairs s T.pool.states)) h,
            );
      }

  -- a row that is too short is left as it was
  pub map-refuses :
      length row < length (map_pairs s T.pool.states) → map_pool s T row ≡ map_outcome (Err RowTooShort) row
  unfolding map_pool map_row
  map-refuses h =
      rw (
        passes g,
        ids-pairs s T.pool.states,
        length-map (id_of s) (map_pairs s T.pool.states),
        lt-ltb (length row) (length (map_pairs s T.pool.states)) h,
      )
