-- Document 01, 'Script and listing': the records of a script.
-- Assumes nothing.
use Rattle.std.specs.Prelude.{Some, None, Option, Bool, not, cond, ◌&&◌, List, ℕ, ◌+◌, ◌-◌, ℤ, pos, negsuc, length, get_or, take, drop, leb, ltb, eqb}
use Rattle.laws.specs.Digits.{little}
use Rattle.shape.specs.declared.time.Millis.{Millis}
use Rattle.rules.specs.declared.script.Record.TheVariants.{Pool, Ask, ShortAsk, GoOn, Give, Switch, Tick, Whole}
use Rattle.rules.specs.Numbers.{SHAPE-TAG, ASK-TAG, GO-ON-TAG, GIVE-TAG, SWITCH-TAG, TICK-TAG, WHOLE-TAG}
use Rattle.rules.specs.declared.script.Record.{Record}

-- the n bytes from a place on, and the number that they hold, little-endian
abbrev pub field_at : List ℕ → ℕ → ℕ → List ℕ
field_at xs at n = take n (drop at xs)

abbrev pub number_at : List ℕ → ℕ → ℕ → ℕ
number_at xs at n = little (field_at xs at n)

-- a number of four bytes that is signed
unfoldable pub signed : ℕ → ℤ
signed n = cond (ltb n 2147483648) (pos n) (negsuc (4294967295 - n))

-- the wait of an ask that stands without one
abbrev pub short_wait : Millis
short_wait = record { 0 = negsuc 0 }

-- a record by its tag and the length of its value; other tags and lengths are bad
unfoldable pub decode : ℕ → List ℕ → Option Record
decode tag value =
    cond (eqb tag SHAPE-TAG && eqb (length value) 8)
    (Some (Pool (record {
      pool = number_at value 0 1;
      threads = number_at value 1 1;
      levels = number_at value 2 1;
      tops = number_at value 3 1;
      top_size = number_at value 4 4;
    })))
    (cond (eqb tag ASK-TAG && eqb (length value) 9)
    (Some (Ask (number_at value 0 1) (number_at value 1 4) (record { 0 = signed (number_at value 5 4) })))
    (cond (eqb tag ASK-TAG && eqb (length value) 5) (Some (ShortAsk (number_at value 0 1) (number_at value 1 4)))
    (cond (eqb tag GO-ON-TAG && eqb (length value) 1) (Some (GoOn (number_at value 0 1)))
    (cond (eqb tag GIVE-TAG && eqb (length value) 5) (Some (Give (number_at value 0 1) (number_at value 1 4)))
    (cond (eqb tag SWITCH-TAG && eqb (length value) 1) (Some (Switch (number_at value 0 1)))
    (cond (eqb tag TICK-TAG && eqb (length value) 0) (Some Tick)
    (cond (eqb tag WHOLE-TAG && eqb (length value) 0) (Some Whole) None)))))))

-- a record: a one-byte tag, a two-byte length, the value
abbrev pub tag_at : List ℕ → ℕ → ℕ
tag_at xs at = get_or xs at 0

abbrev pub length_at : List ℕ → ℕ → ℕ
length_at xs at = number_at xs (at + 1) 2

abbrev pub value_at : List ℕ → ℕ → List ℕ
value_at xs at = field_at xs (at + 3) (length_at xs at)

-- none of its bytes is cut off
unfoldable pub uncut : List ℕ → ℕ → Bool
uncut xs at = leb (at + 3) (length xs) && leb (at + 3 + length_at xs at) (length xs)

-- tag 1 first, and only once
unfoldable pub placed : List ℕ → ℕ → Bool
placed xs at = cond (eqb at 0) (eqb (tag_at xs at) SHAPE-TAG) (not (eqb (tag_at xs at) SHAPE-TAG))

-- a good record, and where the next one starts
abbrev pub found : Option Record → ℕ → Option (Record × ℕ)
found (Some r) next = Some (r, next)
found None next = None

-- what stands at an offset of a script
unfoldable pub read_at : List ℕ → ℕ → Option (Record × ℕ)
read_at xs at =
    cond (uncut xs at && placed xs at) (found (decode (tag_at xs at) (value_at xs at)) (at + 3 + length_at xs at)) None
