-- What validity says of one level's free list, from the level's own parts of the tables.
-- Assumes nothing.
use Rattle.std.specs.Prelude.{◌≡◌, Bool, ◌&&◌, ◌||◌, List, ℕ, length, get_or, take, leb, ltb, eqb}
use Rattle.laws.specs.Tests.{bit, every}
use Rattle.laws.specs.Lists.{times}
use Rattle.rules.specs.Numbers.{FREE}

-- what a closure answers is what this test says
abbrev pub Tells : (ℕ → Bool → Type 0) → (ℕ → Bool) → Type 0
Tells answers test = (x : ℕ) (b : Bool) → answers x b → b ≡ test x

-- every cell holds zero
abbrev pub zeros : List ℕ → Bool
zeros cells = every (length cells) (λ i. eqb (get_or cells i 0) 0)

-- every member is below n
abbrev pub below : List ℕ → ℕ → Bool
below members n = every (length members) (λ i. ltb (get_or members i 0) n)

-- the list is as long as its cells at most, and the places behind its end hold zero
abbrev pub ends : List ℕ → ℕ → Bool
ends cells used = leb used (length cells) && every (length cells) (λ i. ltb i used || eqb (get_or cells i 0) 0)

-- block b of the level is FREE
abbrev pub free : List ℕ → ℕ → Bool
free states b = eqb (get_or states b 0) FREE

-- the members name each FREE block once and nothing else
abbrev pub listed : List ℕ → List ℕ → Bool
listed states members =
    below members (length states) && every (length states) (λ b. eqb (times b members) (bit (free states b)))

-- the level's list, of which the first cells are used, is as validity says
unfoldable pub level_valid : List ℕ → List ℕ → ℕ → Bool
level_valid states cells used = ends cells used && listed states (take used cells)
