-- What the proofs of src/call.rt open.
-- Assumes nothing.
use mathlib.Core.Bool.{Bool, true}
use Rattle.rules.specs.Valid.{fields_used, hand_inside, target_kept, size_kept, found_kept, deadline_kept, may_wait, call_kept}

-- where this unfolds, all that is said of one call does
unfoldable pub every_line : Bool
unfolding fields_used hand_inside target_kept size_kept found_kept deadline_kept may_wait call_kept
every_line = true
