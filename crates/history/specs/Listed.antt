-- Document 01, 'Refusal numbers' with its column 'Given by', and the other answers of 'Script and listing': which call gives which number.
-- Assumes nothing.
use Rattle.std.specs.Prelude.{Bool, true, false, ◌&&◌, ◌||◌, List, [], ◌∷◌, ◌++◌, ℕ, eqb}
use Rattle.history.specs.History.{Step, Build, Ask, GoOn, Give, Switch, Tick, Whole}

-- the public calls, by the paper's names, and the script
pub data Entry : Type 0 where
  build ask go_on give switch tick whole cover map script : Entry
  deriving Discrete as Entry-discrete

abbrev pub entry : Step → Entry
entry Build = build
entry (Ask t size ms) = ask
entry (GoOn t) = go_on
entry (Give t i) = give
entry (Switch t) = switch
entry Tick = tick
entry Whole = whole

-- a number of the listing, and who gives it
pub record Row : Type 0 where
  pub number : ℕ
  pub given_by : List Entry

abbrev row : ℕ → List Entry → Row
row number given_by = record { number = number; given_by = given_by }

abbrev all_but_build : List Entry
all_but_build = ask ∷ go_on ∷ give ∷ switch ∷ tick ∷ whole ∷ cover ∷ map ∷ []

-- the table of refusals, row by row
abbrev pub refusals : List Row
refusals =
    row 1 (build ∷ all_but_build)
    ∷ row 2 (build ∷ all_but_build)
    ∷ row 3 all_but_build
    ∷ row 4 (ask ∷ go_on ∷ give ∷ switch ∷ [])
    ∷ row 5 (ask ∷ go_on ∷ give ∷ [])
    ∷ row 6 (switch ∷ [])
    ∷ row 7 (ask ∷ give ∷ [])
    ∷ row 8 (go_on ∷ [])
    ∷ row 9 (ask ∷ [])
    ∷ row 10 (ask ∷ [])
    ∷ row 11 (give ∷ [])
    ∷ row 12 (give ∷ [])
    ∷ row 13 (give ∷ [])
    ∷ row 14 (go_on ∷ [])
    ∷ row 15 (go_on ∷ [])
    ∷ row 16 (tick ∷ [])
    ∷ row 17 (script ∷ [])
    ∷ row 18 (cover ∷ [])
    ∷ row 19 (map ∷ [])
    ∷ []

-- the answers of steps that are made; cover's block and map's number of blocks have none
abbrev pub answers : List Row
answers =
    row 40 (ask ∷ give ∷ [])
    ∷ row 41 (go_on ∷ [])
    ∷ row 42 (go_on ∷ [])
    ∷ row 43 (go_on ∷ [])
    ∷ row 44 (go_on ∷ [])
    ∷ row 45 (go_on ∷ [])
    ∷ row 46 (go_on ∷ [])
    ∷ row 47 (go_on ∷ [])
    ∷ row 48 (go_on ∷ [])
    ∷ row 49 (switch ∷ [])
    ∷ row 50 (tick ∷ [])
    ∷ row 51 (whole ∷ [])
    ∷ row 52 (whole ∷ [])
    ∷ row 53 (build ∷ [])
    ∷ []

decided : {A : Type 0} → Dec A → Bool
decided (yes p) = true
decided (no n) = false

among : Entry → List Entry → Bool
among e [] = false
among e (x ∷ xs) = decided (Entry-discrete e x) || among e xs

gives : Entry → ℕ → List Row → Bool
gives e n [] = false
gives e n (r ∷ rest) = (eqb r.number n && among e r.given_by) || gives e n rest

-- the number is one of those listed for the call
unfoldable pub listed_for : Entry → ℕ → Bool
unfolding gives among decided
listed_for e n = gives e n (refusals ++ answers)
