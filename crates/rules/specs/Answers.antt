-- Document 01, 'Refusal numbers' and 'Script and listing': the number and the detail of each answer.
-- Assumes nothing.
use Rattle.std.specs.Prelude.{Ok, Err, Result, ℕ}
use Rattle.rules.specs.declared.Refusal.{Refusal}
use Rattle.rules.specs.declared.Refusal.TheVariants.{ShapeNotAllowed, WrongLength, NotValid, NoThread, NotRunning, IsBlocked, CallOpen, NoCall, SizeAboveTop, WaitOutside, IdOutside, NotAllocated, NotOwner, NoRoom, TimedOut, ClockAtEnd, BadRecord, OffsetOutside, RowTooShort}
use Rattle.rules.specs.declared.Answer.{Answer}
use Rattle.rules.specs.declared.Answer.TheVariants.{Opened, Found, Again, Taken, Split, Granted, Waiting, Merged, Settled, Switched, Ticked, Whole, NotWhole, Built}

-- what a call gives: its answer, or the refusal
abbrev pub Answered : Type 0
Answered = Result Answer Refusal

-- the table of refusals
abbrev pub refusal_number : Refusal → ℕ
refusal_number ShapeNotAllowed = 1
refusal_number WrongLength = 2
refusal_number NotValid = 3
refusal_number NoThread = 4
refusal_number NotRunning = 5
refusal_number IsBlocked = 6
refusal_number CallOpen = 7
refusal_number NoCall = 8
refusal_number SizeAboveTop = 9
refusal_number WaitOutside = 10
refusal_number IdOutside = 11
refusal_number NotAllocated = 12
refusal_number NotOwner = 13
refusal_number NoRoom = 14
refusal_number TimedOut = 15
refusal_number ClockAtEnd = 16
refusal_number (BadRecord at) = 17
refusal_number OffsetOutside = 18
refusal_number RowTooShort = 19

abbrev pub refusal_detail : Refusal → ℕ
refusal_detail ShapeNotAllowed = 0
refusal_detail WrongLength = 0
refusal_detail NotValid = 0
refusal_detail NoThread = 0
refusal_detail NotRunning = 0
refusal_detail IsBlocked = 0
refusal_detail CallOpen = 0
refusal_detail NoCall = 0
refusal_detail SizeAboveTop = 0
refusal_detail WaitOutside = 0
refusal_detail IdOutside = 0
refusal_detail NotAllocated = 0
refusal_detail NotOwner = 0
refusal_detail NoRoom = 0
refusal_detail TimedOut = 0
refusal_detail ClockAtEnd = 0
refusal_detail (BadRecord at) = at
refusal_detail OffsetOutside = 0
refusal_detail RowTooShort = 0

-- the answer's number in the listing
abbrev pub number : Answered → ℕ
number (Err r) = refusal_number r
number (Ok Opened) = 40
number (Ok (Found l)) = 41
number (Ok Again) = 42
number (Ok (Taken i)) = 43
number (Ok (Split i)) = 44
number (Ok (Granted i)) = 45
number (Ok Waiting) = 46
number (Ok (Merged i)) = 47
number (Ok (Settled n)) = 48
number (Ok Switched) = 49
number (Ok (Ticked n)) = 50
number (Ok Whole) = 51
number (Ok NotWhole) = 52
number (Ok Built) = 53

-- the found level for 41; the id in hand after the step for 43, 44, 45 and 47; the number of threads woken for 48 and 50; the offset for 17; else 0
abbrev pub detail : Answered → ℕ
detail (Err r) = refusal_detail r
detail (Ok Opened) = 0
detail (Ok (Found l)) = l
detail (Ok Again) = 0
detail (Ok (Taken i)) = i
detail (Ok (Split i)) = i
detail (Ok (Granted i)) = i
detail (Ok Waiting) = 0
detail (Ok (Merged i)) = i
detail (Ok (Settled n)) = n
detail (Ok Switched) = 0
detail (Ok (Ticked n)) = n
detail (Ok Whole) = 0
detail (Ok NotWhole) = 0
detail (Ok Built) = 0
