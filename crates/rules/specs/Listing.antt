-- Document 01, 'Script and listing': the bytes of the listing that a script prints.
-- Assumes nothing.
use Rattle.std.specs.Prelude.{Err, Some, None, Option, Bool, cond, List, [], ◌∷◌, ◌++◌, ℕ, zero, suc, ◌+◌, length, leb, ltb, eqb}
use Rattle.laws.specs.Digits.{digits}
use Rattle.shape.specs.declared.Shape.{Shape}
use Rattle.rules.specs.declared.Refusal.TheVariants.{BadRecord}
use Rattle.rules.specs.declared.script.Record.{Record}
use Rattle.rules.specs.declared.script.Record.TheVariants.{Pool, Ask, ShortAsk, GoOn, Give, Switch, Tick, Whole}
use Rattle.rules.specs.Numbers.{MOST-BYTES}
use Rattle.rules.specs.Answers.{Answered, number, detail}
use Rattle.rules.specs.Tables.{State, fresh}
use Rattle.rules.specs.Steps.{Outcome, outcome}
use Rattle.rules.specs.Calls.{build, ask, go_on, give, switch, tick}
use Rattle.rules.specs.Questions.{whole}
use Rattle.rules.specs.Script.{short_wait, tag_at, read_at}

-- one step per record: the public call that it names
unfoldable pub record_step : Shape → State → Record → Outcome
record_step s T (Pool q) = build q (fresh q)
record_step s T (Ask t size m) = ask s T t size m
record_step s T (ShortAsk t size) = ask s T t size short_wait
record_step s T (GoOn t) = go_on s T t
record_step s T (Give t i) = give s T t i
record_step s T (Switch t) = switch s T t
record_step s T Tick = tick s T
record_step s T Whole = outcome (whole s T) T

-- the shape from a record on
abbrev pub shape_after : Shape → Record → Shape
shape_after s (Pool q) = q
shape_after s (Ask t size m) = s
shape_after s (ShortAsk t size) = s
shape_after s (GoOn t) = s
shape_after s (Give t i) = s
shape_after s (Switch t) = s
shape_after s Tick = s
shape_after s Whole = s

-- "n tag answer detail"
abbrev pub header : List ℕ
header =
    110 ∷ 32 ∷ 116 ∷ 97 ∷ 103 ∷ 32 ∷ 97 ∷ 110 ∷ 115 ∷ 119 ∷ 101 ∷ 114 ∷ 32 ∷ 100 ∷ 101 ∷ 116 ∷ 97 ∷ 105 ∷ 108 ∷ 10 ∷ []

-- each line has: record number from 0, tag (the byte read, bad or not), answer, detail
unfoldable pub line : ℕ → ℕ → Answered → List ℕ
line n tag a = digits n ++ (32 ∷ digits tag ++ (32 ∷ digits (number a) ++ (32 ∷ digits (detail a) ++ (10 ∷ []))))

-- refusal 1 stops the run
abbrev pub stops : Answered → Bool
stops a = eqb (number a) 1

-- the line of what was read at an offset, and those of the rest of the script, from the next offset and tables on
unfoldable pub read_lines : (ℕ → Shape → State → List ℕ) → List ℕ → ℕ → ℕ → Shape → State → Option (Record × ℕ) → List ℕ
read_lines rest xs n at s T (Some (r, next)) =
    line n (tag_at xs at) (record_step s T r).answer
    ++ cond (stops (record_step s T r).answer) [] (rest next (shape_after s r) (record_step s T r).after)
read_lines rest xs n at s T None = line n (tag_at xs at) (Err (BadRecord at))

-- the lines of the records from an offset on, the first of them with number n; no more records than this are read
unfoldable pub lines : ℕ → List ℕ → ℕ → ℕ → Shape → State → List ℕ
lines zero xs n at s T = []
lines (suc most) xs n at s T =
    cond (leb (length xs) at) [] (read_lines (lines most xs (n + 1)) xs n at s T (read_at xs at))

-- before the shape record there is no pool
abbrev pub no_shape : Shape
no_shape = record { pool = 0; threads = 0; levels = 0; tops = 0; top_size = 0 }

-- what a script prints; a record takes at least a byte, so a script has no more records than bytes
unfoldable pub listing : List ℕ → List ℕ
listing xs =
    header
    ++ cond (eqb (length xs) 0) (line 0 0 (Err (BadRecord 0)))
    (cond (ltb MOST-BYTES (length xs)) (line 0 0 (Err (BadRecord MOST-BYTES)))
    (lines (length xs) xs 0 0 no_shape (fresh no_shape)))
