use mathlib.Core.Path.{◌≡◌}
use mathlib.Core.Bool.{Bool, not, beq}
use mathlib.Core.List.{List}
use Prim.Native.Nat.{ℕ}
use lib.ListN.{get_or}
use lib.Dec.{eqb}
use Rattle.laws.specs.Tests.{every}
use Rattle.rules.specs.Numbers.{ALLOCATED}
use Rattle.check_tree.proofs.Highest.{Highest}
use Rattle.check_tree.proofs.owners_known.Given as goal

-- the states and owners of the first n blocks go together
unfoldable pub pairs : List ℕ → List ℕ → ℕ → Bool
pairs states owners n = every n (λ k. beq (eqb (get_or states k 0) ALLOCATED) (not (eqb (get_or owners k 0) 0)))

abbrev pub invariant-loop-k : goal.invariant-loop-k
invariant-loop-k l =
    Highest l.states l.k l.highest_state
    × Highest l.owners l.k l.highest_owner
    × (l.paired ≡ pairs l.states l.owners l.k)
