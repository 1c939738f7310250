-- Document 01, 'On either side of the lines': the cases P1 to P12, and the others that a rule answers, in one table.
-- Assumes nothing.
use Rattle.std.specs.Prelude.{◌≡◌, refl, true, List, [], ◌∷◌, ◌++◌, ℕ, pos, negsuc, replicate}
use Rattle.shape.specs.declared.Shape.{Shape}
use Rattle.shape.specs.Blocks.{size, level_for, id, offset}
use Rattle.shape.specs.Time.{ticks}
use Rattle.rules.specs.Numbers.{ALLOCATED, FREE, DIVIDED, FOUND}
use Rattle.rules.specs.Tables.{State, state, free_list, call_of}
use Rattle.proved_cases.specs.Table.{Case, row, same, agree}
use Rattle.history.specs.History.{Step, Build, Ask, GoOn, Give, Switch, Tick, Whole}
use Rattle.proved_cases.specs.Computed.{every_rule, after, number_on, number_after, detail_after, free_after, room_after, cover_on, map_on}

-- pool 1 with one top block of 64 bytes, or of 1,024, and this number of levels
abbrev pub of64 : ℕ → Shape
of64 levels = record { pool = 1; threads = 2; levels = levels; tops = 1; top_size = 64 }

-- with two top blocks
abbrev pub two_of64 : ℕ → Shape
two_of64 levels = record { pool = 1; threads = 2; levels = levels; tops = 2; top_size = 64 }

abbrev pub of1024 : ℕ → Shape
of1024 levels = record { pool = 1; threads = 2; levels = levels; tops = 1; top_size = 1024 }

-- thread 0 asks for this size with no wait, and goes on n times
abbrev pub asking : ℕ → ℕ → List Step
asking size n = Ask 0 size (pos 0) ∷ replicate n (GoOn 0)

-- quarters 0, 1, 2 granted, 0 then 1 given back
abbrev pub quarters : List Step
quarters =
    (Switch 0 ∷ asking 256 4) ++ asking 256 3 ++ asking 256 3 ++ (Give 0 257 ∷ GoOn 0 ∷ Give 0 4353 ∷ GoOn 0 ∷ [])

-- thread 1 asks with a wait of 90 ms at clock 0, so its deadline is 9; the clock is then at n
abbrev pub waited : ℕ → List Step
waited n = Switch 1 ∷ Ask 1 16 (pos 90) ∷ replicate n Tick

-- thread 0 has the top block, and thread 1 asks so
abbrev pub full : List Step
full = (Switch 0 ∷ asking 64 3) ++ waited 9

-- thread 0 asks for 16 bytes, and a level is found
abbrev pub found : List Step
found = Switch 0 ∷ asking 16 1

-- a divided top block whose parts have these states, owners and free list; no calls, nobody running
abbrev pub divided : List ℕ → List ℕ → List ℕ → State
divided parts owners list =
    state (DIVIDED ∷ parts) (0 ∷ owners) (0 ∷ list) (replicate 12 0) (replicate 3 0) (record { clock = 0; running = 0 })

abbrev pub four_free : State
four_free = divided (FREE ∷ FREE ∷ FREE ∷ FREE ∷ []) (0 ∷ 0 ∷ 0 ∷ 0 ∷ []) (4 ∷ 0 ∷ 0 ∷ 1 ∷ 2 ∷ 3 ∷ [])

abbrev pub three_free : State
three_free = divided (FREE ∷ FREE ∷ FREE ∷ ALLOCATED ∷ []) (0 ∷ 0 ∷ 0 ∷ 1 ∷ []) (3 ∷ 0 ∷ 0 ∷ 1 ∷ 2 ∷ 0 ∷ [])

abbrev pub cases : List Case
cases =
    -- P1 top size 64, 3 levels: sizes 64, 16, 4; such a pool is built, 53
    row (size (of64 3) 0 ∷ size (of64 3) 1 ∷ size (of64 3) 2 ∷ number_after (of64 3) [] Build ∷ []) (64 ∷ 16 ∷ 4 ∷ 53 ∷ [])
    -- P2 with 4 levels: 1
    ∷ row (number_after (of64 4) [] Build ∷ []) (1 ∷ [])
    -- sizes 1,024, 256, 64: P3 size 0 and 64 → level 2
    ∷ row (level_for (of1024 3) 0 ∷ level_for (of1024 3) 64 ∷ []) (2 ∷ 2 ∷ [])
    -- P4 65 → 1
    ∷ row (level_for (of1024 3) 65 ∷ []) (1 ∷ [])
    -- P5 257 and 1,024 → 0
    ∷ row (level_for (of1024 3) 257 ∷ level_for (of1024 3) 1024 ∷ []) (0 ∷ 0 ∷ [])
    -- 1,025 → refusal 9
    ∷ row (number_after (of1024 3) (Switch 0 ∷ []) (Ask 0 1025 (pos 0)) ∷ []) (9 ∷ [])
    -- P6 pool 1, level 2, block 5: id 20,993; in P3's shape offset 320
    ∷ row (id (of1024 3) 2 5 ∷ offset (of1024 3) 2 5 ∷ []) (20993 ∷ 320 ∷ [])
    -- P7 1 and 10 ms → 1 tick; 11 → 2; 600,000 → 60,000
    ∷ row (ticks 1 ∷ ticks 10 ∷ ticks 11 ∷ ticks 600000 ∷ []) (1 ∷ 1 ∷ 2 ∷ 60000 ∷ [])
    -- 600,001 and −2 → refusal 10
    ∷ row (number_after (of64 2) (Switch 0 ∷ []) (Ask 0 16 (pos 600001)) ∷ []) (10 ∷ [])
    ∷ row (number_after (of64 2) (Switch 0 ∷ []) (Ask 0 16 (negsuc 1)) ∷ []) (10 ∷ [])
    -- P8 one top block, sizes 1,024 and 256; quarters 0, 1, 2 granted, 0 then 1 given back: list 3, 0, 1
    ∷ row (free_list (of1024 2) (after (of1024 2) quarters).pool.lists 1) (3 ∷ 0 ∷ 1 ∷ [])
    -- with 768 bytes free, 257 finds no room
    ∷ row
    (free_after (of1024 2) quarters ∷ room_after (of1024 2) quarters 257 ∷ number_after (of1024 2) (quarters ++ asking 257 0) (GoOn 0) ∷ [])
    (768 ∷ 0 ∷ 14 ∷ [])
    -- P9 256 gets quarter 3: granted, with its id
    ∷ row (number_after (of1024 2) (quarters ++ asking 256 2) (GoOn 0) ∷ []) (45 ∷ [])
    ∷ row (detail_after (of1024 2) (quarters ++ asking 256 2) (GoOn 0) ∷ []) (12545 ∷ [])
    -- P10 deadline 9, clock 9, no room → 15
    ∷ row ((call_of (after (of64 2) full).threads.calls 1).deadline ∷ (after (of64 2) full).threads.device.clock ∷ []) (9 ∷ 9 ∷ [])
    ∷ row (room_after (of64 2) full 16 ∷ number_after (of64 2) full (GoOn 1) ∷ []) (0 ∷ 15 ∷ [])
    -- at clock 10 → 15 even with room; at clock 9 room is found
    ∷ row (room_after (of64 2) (waited 10) 16 ∷ number_after (of64 2) (waited 10) (GoOn 1) ∷ []) (64 ∷ 15 ∷ [])
    ∷ row (room_after (of64 2) (waited 9) 16 ∷ number_after (of64 2) (waited 9) (GoOn 1) ∷ []) (64 ∷ 41 ∷ [])
    -- P11 all bytes free, a call found: not whole
    ∷ row (free_after (of64 2) found ∷ (call_of (after (of64 2) found).threads.calls 0).stage ∷ []) (64 ∷ FOUND ∷ [])
    ∷ row (number_after (of64 2) found Whole ∷ []) (52 ∷ [])
    -- and with two top blocks
    ∷ row (free_after (two_of64 2) found ∷ (call_of (after (two_of64 2) found).threads.calls 0).stage ∷ []) (128 ∷ FOUND ∷ [])
    ∷ row (number_after (two_of64 2) found Whole ∷ []) (52 ∷ [])
    -- P12 four FREE buddies in the tables: refusal 3; with one of them ALLOCATED the tables are taken
    ∷ row (number_on (of64 2) four_free (Ask 0 16 (pos 0)) ∷ number_on (of64 2) three_free (Ask 0 16 (pos 0)) ∷ []) (3 ∷ 5 ∷ [])
    ∷ row (number_on (of64 2) four_free (GoOn 0) ∷ number_on (of64 2) three_free (GoOn 0) ∷ []) (3 ∷ 5 ∷ [])
    ∷ row (number_on (of64 2) four_free (Give 0 257) ∷ number_on (of64 2) three_free (Give 0 257) ∷ []) (3 ∷ 5 ∷ [])
    ∷ row (cover_on (of64 2) four_free 0 ∷ cover_on (of64 2) three_free 0 ∷ []) (3 ∷ 0 ∷ [])
    ∷ row (map_on (of64 2) four_free (replicate 4 0) ∷ map_on (of64 2) three_free (replicate 4 0) ∷ []) (3 ∷ 0 ∷ [])
    ∷ row (number_on (of64 2) four_free (Switch 0) ∷ number_on (of64 2) three_free (Switch 0) ∷ []) (3 ∷ 49 ∷ [])
    ∷ row (number_on (of64 2) four_free Tick ∷ number_on (of64 2) three_free Tick ∷ []) (3 ∷ 50 ∷ [])
    ∷ row (number_on (of64 2) four_free Whole ∷ number_on (of64 2) three_free Whole ∷ []) (3 ∷ 52 ∷ [])
    -- giving a settled block again: 12
    ∷ row (number_after (of64 2) ((Switch 0 ∷ asking 16 4) ++ (Give 0 257 ∷ GoOn 0 ∷ GoOn 0 ∷ [])) (Give 0 257) ∷ []) (12 ∷ [])
    ∷ []

pub cases-agree : agree cases ≡ true
unfolding every_rule same agree
cases-agree = refl
