-- Document 01, 'Script and listing': the paper's script, byte for byte, and the listing that it prints.
-- Assumes nothing.
use Rattle.std.specs.Prelude.{◌≡◌, refl, List, [], ◌∷◌, ◌++◌, ℕ}
use Rattle.laws.specs.Digits.{digits, digits_within, little}
use Rattle.rules.specs.Script.{signed, decode, uncut, placed, read_at}
use Rattle.rules.specs.Listing.{record_step, header, line, read_lines, lines, listing}
use Rattle.proved_cases.specs.Computed.{every_rule}

-- shape (pool 1, 2 threads, 2 levels, 1 top block, 64 bytes), switch 0, ask 0 for 16 with wait 0, go on four times, whole, give 257, go on
-- twice, whole: a record on each line
abbrev pub script : List ℕ
script =
    1 ∷ 8 ∷ 0 ∷ 1 ∷ 2 ∷ 2 ∷ 1 ∷ 64 ∷ 0 ∷ 0 ∷ 0
    ∷ 5 ∷ 1 ∷ 0 ∷ 0
    ∷ 2 ∷ 9 ∷ 0 ∷ 0 ∷ 16 ∷ 0 ∷ 0 ∷ 0 ∷ 0 ∷ 0 ∷ 0 ∷ 0
    ∷ 3 ∷ 1 ∷ 0 ∷ 0
    ∷ 3 ∷ 1 ∷ 0 ∷ 0
    ∷ 3 ∷ 1 ∷ 0 ∷ 0
    ∷ 3 ∷ 1 ∷ 0 ∷ 0
    ∷ 7 ∷ 0 ∷ 0
    ∷ 4 ∷ 5 ∷ 0 ∷ 0 ∷ 1 ∷ 1 ∷ 0 ∷ 0
    ∷ 3 ∷ 1 ∷ 0 ∷ 0
    ∷ 3 ∷ 1 ∷ 0 ∷ 0
    ∷ 7 ∷ 0 ∷ 0 ∷ []

-- the paper's listing: number, tag, answer and detail of each line
abbrev pub papers_listing : List (ℕ × ℕ × ℕ × ℕ)
papers_listing =
    (0, 1, 53, 0)
    ∷ (1, 5, 49, 0)
    ∷ (2, 2, 40, 0)
    ∷ (3, 3, 41, 0)
    ∷ (4, 3, 43, 1)
    ∷ (5, 3, 44, 257)
    ∷ (6, 3, 45, 257)
    ∷ (7, 7, 52, 0)
    ∷ (8, 4, 40, 0)
    ∷ (9, 3, 47, 1)
    ∷ (10, 3, 48, 0)
    ∷ (11, 7, 51, 0) ∷ []

-- its bytes: numbers with blanks between them, each line ended
unfoldable pub printed : List (ℕ × ℕ × ℕ × ℕ) → List ℕ
printed [] = []
printed ((n, tag, answer, detail) ∷ rows) =
    digits n ++ (32 ∷ digits tag ++ (32 ∷ digits answer ++ (32 ∷ digits detail ++ (10 ∷ printed rows))))

pub script-lists : listing script ≡ header ++ printed papers_listing
unfolding every_rule digits digits_within little signed decode uncut placed read_at record_step line read_lines lines listing printed
script-lists = refl
