-- Document 01, 'Six states and their moves': the numbers of the states. The numbers of a call's stages and of the kinds of wait are ours.
-- Assumes nothing.
use Rattle.std.specs.Prelude.{ℕ}

abbrev pub ALLOCATED : ℕ
ALLOCATED = 0

abbrev pub FREE : ℕ
FREE = 1

abbrev pub DIVIDED : ℕ
DIVIDED = 2

abbrev pub NOEXIST : ℕ
NOEXIST = 3

abbrev pub FREEING : ℕ
FREEING = 4

abbrev pub ALLOCATING : ℕ
ALLOCATING = 5

-- a call's stage; CLOSED where no call is open
abbrev pub CLOSED : ℕ
CLOSED = 0

abbrev pub ASKED : ℕ
ASKED = 1

abbrev pub FOUND : ℕ
FOUND = 2

abbrev pub DIVIDING : ℕ
DIVIDING = 3

abbrev pub RELEASING : ℕ
RELEASING = 4

abbrev pub WAITING : ℕ
WAITING = 5

-- how long a call may wait
abbrev pub NEVER : ℕ
NEVER = 0

abbrev pub FOREVER : ℕ
FOREVER = 1

abbrev pub TIMED : ℕ
TIMED = 2

-- how many cells a call takes in its table
abbrev pub CELLS : ℕ
CELLS = 6

-- the clock runs from 0 to here
abbrev pub CLOCK-END : ℕ
CLOCK-END = 4294967295

-- the tags of a script's records
abbrev pub SHAPE-TAG : ℕ
SHAPE-TAG = 1

abbrev pub ASK-TAG : ℕ
ASK-TAG = 2

abbrev pub GO-ON-TAG : ℕ
GO-ON-TAG = 3

abbrev pub GIVE-TAG : ℕ
GIVE-TAG = 4

abbrev pub SWITCH-TAG : ℕ
SWITCH-TAG = 5

abbrev pub TICK-TAG : ℕ
TICK-TAG = 6

abbrev pub WHOLE-TAG : ℕ
WHOLE-TAG = 7

-- the longest script that is run
abbrev pub MOST-BYTES : ℕ
MOST-BYTES = 65536
