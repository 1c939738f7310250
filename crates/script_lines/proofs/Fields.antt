-- Fields, one behind the other, are a line, and each has few digits.
-- Assumes nothing.
use mathlib.Core.Path.{◌≡◌}
use mathlib.Core.List.{List, [], ◌∷◌, ◌++◌}
use Prim.Native.Nat.{ℕ, ◌+◌, ◌^◌, ◌≤◌, ◌<◌}
use native.Mathlib.Omega.{arith}
use lib.ListN.{length, set, length-append}
use lib.Seq.{sets}
use Rattle.laws.specs.Digits.{digits}
use Rattle.laws.specs.Sets.{sets-append}
use Rattle.script_lines.specs.Buffer.{length-field, line-fields, digits-short, number_short}

-- a byte or a run that is stored behind another
pub set_behind :
    (xs us : List ℕ) (at v : ℕ) {m : ℕ} → m ≡ at + length us → set (sets xs at us) m v ≡ sets xs at (us ++ (v ∷ []))
set_behind xs us at v e = rw e (sets-append xs us (v ∷ []) at)

pub sets_behind :
    (xs us vs : List ℕ) (at : ℕ) {m : ℕ} → m ≡ at + length us → sets (sets xs at us) m vs ≡ sets xs at (us ++ vs)
sets_behind xs us vs at e = rw e (sets-append xs us vs at)

-- the most digits of a record's number, its tag, its answer and the detail
pub of_record : (n : ℕ) → n < 100000 → length (digits n) ≤ 5
of_record n h = digits-short 4 n h

pub of_tag : (n : ℕ) → n < 256 → length (digits n) ≤ 3
of_tag n h = digits-short 2 n (omega arith)

pub of_answer : (n : ℕ) → n < 100 → length (digits n) ≤ 2
of_answer n h = digits-short 1 n h

pub of_detail : (n : ℕ) → n < 2 ^ 64 → length (digits n) ≤ 20
of_detail n h = digits-short 19 n (omega arith)

-- what the check of `put_field` and `put_line` uses
pub ruleset line_steps = (set_behind, sets_behind, length-append, length-field, line-fields, number_short, of_record, of_tag, of_answer, of_detail)
