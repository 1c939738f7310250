-- How many bytes a number and a line take at the most.
-- Assumes nothing.
use Rattle.std.specs.Prelude.{Ok, Err, ◌≡◌, List, [], ◌∷◌, ◌++◌, ℕ, zero, suc, ◌+◌, ◌/◌, ◌^◌, ◌≤◌, ◌<◌, length}
use Rattle.std.proofs.Common.{append_assoc, arith, length-append}
use Rattle.std.proofs.Math.Nat.{pow-succ'}
use Rattle.std.proofs.Math.Decide.{dec_lt}
use Rattle.laws.specs.Digits.{digits, digits-one, digits_more}
use Rattle.rules.specs.declared.Refusal.{Refusal}
use Rattle.rules.specs.declared.Refusal.TheVariants.{ShapeNotAllowed, WrongLength, NotValid, NoThread, NotRunning, IsBlocked, CallOpen, NoCall, SizeAboveTop, WaitOutside, IdOutside, NotAllocated, NotOwner, NoRoom, TimedOut, ClockAtEnd, BadRecord, OffsetOutside, RowTooShort}
use Rattle.rules.specs.declared.Answer.TheVariants.{Opened, Found, Again, Taken, Split, Granted, Waiting, Merged, Settled, Switched, Ticked, Whole, NotWhole, Built}
use Rattle.rules.specs.Answers.{Answered, refusal_number, number, detail}
use Rattle.rules.specs.Listing.{line}

-- the most bytes that the line of a record below 100000 takes: 5, 3, 2 and 20 digits, and a byte behind each number
abbrev pub LINE-MOST : ℕ
LINE-MOST = 34

-- a number, and the byte behind it
unfoldable pub field : ℕ → ℕ → List ℕ
field n behind = digits n ++ (behind ∷ [])

pub length-field : (n behind : ℕ) → length (field n behind) ≡ length (digits n) + 1
unfolding field
length-field n behind = length-append (digits n) (behind ∷ [])

-- a line is four fields
pub line-fields :
    (n tag : ℕ) (a : Answered) → line n tag a ≡ field n 32 ++ (field tag 32 ++ (field (number a) 32 ++ field (detail a) 10))
unfolding line field
line-fields n tag a = simp append_assoc

-- a number below ten has one digit, and any other one more than its tenth
pub length-one : (n : ℕ) → n < 10 → length (digits n) ≡ 1
length-one n h = rw (digits-one n h)

pub length_more : (n : ℕ) → 10 ≤ n → length (digits n) ≡ length (digits (n / 10)) + 1
length_more n h = rw (digits_more n h, length-append)

-- so each number has a digit, and one below a power of ten no more than that has zeros
pub digits-some : (n : ℕ) → 1 ≤ length (digits n)
digits-some n = go (dec_lt n 10)
  where
    go : Dec (n < 10) → 1 ≤ length (digits n)
    go (yes h) = omega (arith, length-one n h)
    go (no h) = omega (arith, length_more n (omega arith))

pub digits-short : (k n : ℕ) → n < 10 ^ suc k → length (digits n) ≤ suc k
digits-short zero n h = omega (arith, length-one n h)
digits-short (suc k) n h = go (dec_lt n 10) (digits-short k (n / 10))
  where
    go : Dec (n < 10) → (n / 10 < 10 ^ suc k → length (digits (n / 10)) ≤ suc k) → length (digits n) ≤ suc (suc k)
    go (yes d) less = omega (arith, length-one n d)
    go (no d) less = omega (arith, length_more n (omega arith), less (omega (arith, pow-succ' 10 (suc k))))

-- each answer has two digits at the most
pub number_short : (a : Answered) → number a < 100
number_short (Err r) = refusal r
  where
    refusal : (r : Refusal) → refusal_number r < 100
    refusal ShapeNotAllowed = omega arith
    refusal WrongLength = omega arith
    refusal NotValid = omega arith
    refusal NoThread = omega arith
    refusal NotRunning = omega arith
    refusal IsBlocked = omega arith
    refusal CallOpen = omega arith
    refusal NoCall = omega arith
    refusal SizeAboveTop = omega arith
    refusal WaitOutside = omega arith
    refusal IdOutside = omega arith
    refusal NotAllocated = omega arith
    refusal NotOwner = omega arith
    refusal NoRoom = omega arith
    refusal TimedOut = omega arith
    refusal ClockAtEnd = omega arith
    refusal (BadRecord at) = omega arith
    refusal OffsetOutside = omega arith
    refusal RowTooShort = omega arith
number_short (Ok Opened) = omega arith
number_short (Ok (Found l)) = omega arith
number_short (Ok Again) = omega arith
number_short (Ok (Taken i)) = omega arith
number_short (Ok (Split i)) = omega arith
number_short (Ok (Granted i)) = omega arith
number_short (Ok Waiting) = omega arith
number_short (Ok (Merged i)) = omega arith
number_short (Ok (Settled n)) = omega arith
number_short (Ok Switched) = omega arith
number_short (Ok (Ticked n)) = omega arith
number_short (Ok Whole) = omega arith
number_short (Ok NotWhole) = omega arith
number_short (Ok Built) = omega arith

-- the digits of a line's numbers, and the line
pub record Short (n tag answer detail : ℕ) : Type 0 where
  pub of-record : length (digits n) ≤ 5
  pub of-tag : length (digits tag) ≤ 3
  pub of-answer : length (digits answer) ≤ 2
  pub of-detail : length (digits detail) ≤ 20

pub numbers-short :
    (n tag answer detail : ℕ) → n < 100000 → tag < 256 → answer < 100 → detail < 2 ^ 64 → Short n tag answer detail
numbers-short n tag answer detail p q r s =
    record {
      of-record = digits-short 4 n p;
      of-tag = digits-short 2 tag (omega arith);
      of-answer = digits-short 1 answer r;
      of-detail = digits-short 19 detail (omega arith);
    }

pub fields-short :
    {n tag answer detail : ℕ} → Short n tag answer detail →
    length (field n 32 ++ (field tag 32 ++ (field answer 32 ++ field detail 10))) ≤ LINE-MOST
fields-short s = simp (length-append, length-field) (omega arith)

pub line-short :
    (n tag : ℕ) (a : Answered) → n < 100000 → tag < 256 → detail a < 2 ^ 64 → length (line n tag a) ≤ LINE-MOST
line-short n tag a p q r = rw line-fields (fields-short (numbers-short n tag (number a) (detail a) p q (number_short a) r))
