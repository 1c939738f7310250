-- What two lines of validity say of one block and its parts. The parts of the block at place i stand behind the n top blocks and the parts of
-- the blocks before it, so the lines of all levels are one test of each place above the deepest level.
-- Assumes nothing.
use mathlib.Core.Path.{◌≡◌, sym, ◌∙◌, ap₂}
use mathlib.Core.Bool.{Bool, not, ◌&&◌, beq}
use mathlib.Core.List.{List}
use Prim.Native.Nat.{ℕ, ◌+◌, ◌*◌, ◌-◌}
use native.Mathlib.Nat.{add-zero}
use lib.ListN.{get_or}
use lib.Dec.{eqb}
use Rattle.laws.specs.Tests.{every, every-both}
use Rattle.shape.specs.declared.Shape.{Shape}
use Rattle.shape.specs.Limits.{parts}
use Rattle.shape.specs.Blocks.{above}
use Rattle.shape.specs.Laws.{place-part}
use Rattle.shape.specs.Levels.{every-place}
use Rattle.rules.specs.Numbers.{FREE, DIVIDED, NOEXIST}
use Rattle.rules.specs.Valid.{parts_exist, buddies_merged}

-- of p parts each is there if the block is DIVIDED, and none if it isn't
abbrev agree : ℕ → ℕ → List ℕ → ℕ → Bool
agree p n states i =
    every p (λ j. beq (not (eqb (get_or states (n + p * i + j) 0) NOEXIST)) (eqb (get_or states i 0) DIVIDED))

-- they are not all FREE
abbrev differ : ℕ → ℕ → List ℕ → ℕ → Bool
differ p n states i = not (every p (λ j. eqb (get_or states (n + p * i + j) 0) FREE))

unfoldable pub kept : ℕ → ℕ → List ℕ → ℕ → Bool
kept p n states i = agree p n states i && differ p n states i

agree-all :
    (s : Shape) (states : List ℕ) → every (above s (s.levels - 1)) (agree (parts s) s.tops states) ≡ parts_exist s states
unfolding parts_exist
agree-all s states = sym (every-place s (s.levels - 1) (agree (parts s) s.tops states)) ∙ simp place-part

differ-all :
    (s : Shape) (states : List ℕ) → every (above s (s.levels - 1)) (differ (parts s) s.tops states) ≡ buddies_merged s states
unfolding buddies_merged
differ-all s states = sym (every-place s (s.levels - 1) (differ (parts s) s.tops states)) ∙ simp place-part

pub kept-all :
    (s : Shape) (states : List ℕ) →
    every (above s (s.levels - 1)) (kept (parts s) s.tops states)
    ≡ (parts_exist s states && buddies_merged s states)
unfolding kept
kept-all s states =
    every-both _ (agree (parts s) s.tops states) (differ (parts s) s.tops states)
    ∙ ap₂ ◌&&◌ (agree-all s states) (differ-all s states)

-- of four parts, as code tests them
abbrev pub quarters : Bool → ℕ → ℕ → ℕ → ℕ → Bool
quarters divided a b c d =
    (beq (not (eqb a NOEXIST)) divided
    && beq (not (eqb b NOEXIST)) divided
    && beq (not (eqb c NOEXIST)) divided
    && beq (not (eqb d NOEXIST)) divided)
    && not (eqb a FREE && eqb b FREE && eqb c FREE && eqb d FREE)

pub kept-quarters :
    (n : ℕ) (states : List ℕ) (i : ℕ) →
    kept 4 n states i
    ≡ quarters
    (eqb (get_or states i 0) DIVIDED)
    (get_or states (n + 4 * i) 0)
    (get_or states (n + 4 * i + 1) 0)
    (get_or states (n + 4 * i + 2) 0)
    (get_or states (n + 4 * i + 3) 0)
unfolding kept every
kept-quarters n states i = rw add-zero
