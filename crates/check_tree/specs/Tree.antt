-- The lines of validity about states and owners.
-- Assumes nothing.
use Rattle.std.specs.Prelude.{Bool, ◌&&◌, List, ℕ}
use Rattle.shape.specs.declared.Shape.{Shape}
use Rattle.rules.specs.Valid.{states_known, owners_known, tops_exist, parts_exist, deepest_whole, buddies_merged}

abbrev pub tree_valid : Shape → List ℕ → List ℕ → Bool
tree_valid s states owners =
    (states_known s states && owners_known s states owners)
    && (tops_exist s states && parts_exist s states && deepest_whole s states && buddies_merged s states)
