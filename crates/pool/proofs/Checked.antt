-- What a verdict that passed gives to the call behind it.
-- Assumes nothing.
use Rattle.std.specs.Prelude.{◌≡◌, Ok, true, List, length, ℕ}
use Rattle.std.proofs.Common.{sym, ◌∙◌}
use Rattle.shape.specs.declared.Shape.{Shape}
use Rattle.shape.specs.Limits.{allowed}
use Rattle.shape.specs.Blocks.{blocks}
use Rattle.rules.specs.declared.Device.{Device}
use Rattle.rules.specs.Refusals.{Verdict, fitting, verdict}
use Rattle.rules.specs.Tables.{State, state, lengths, fresh}
use Rattle.rules.specs.Valid.{valid}
use Rattle.facts.specs.Lines.{Sound}
use Rattle.facts.specs.Given.{LengthFacts, length-facts}
use Rattle.facts.specs.Verdict.{passed, fitting-passed}
use Rattle.pool_sound.specs.Sound.{right-lengths}

-- what passed all three is sound
pub sound : {s : Shape} {T : State} {v : Verdict} → v ≡ verdict s T → v ≡ Ok tt → Sound s T
sound e f = passed _ _ (sym e ∙ f)

-- the same, each fact as an equation
module _ (s : Shape) (T : State) {v : Verdict} (e : v ≡ verdict s T) (f : v ≡ Ok tt) where
  pub shape-allowed : allowed s ≡ true
  shape-allowed = (sound e f).shape

  pub lengths-right : lengths s T ≡ true
  lengths-right = (sound e f).lengths

  pub tables-valid : valid s T ≡ true
  tables-valid = (sound e f).valid

  pub states-length : length T.pool.states ≡ blocks s
  states-length = (right-lengths (sound e f)).states

-- what passed the first two has an allowed shape, and its lengths
pub tables-fit :
    {s : Shape} {states owners lists calls queue : List ℕ} {v : Verdict} →
    ((d : Device) → v ≡ fitting s (state states owners lists calls queue d)) → v ≡ Ok tt →
    (allowed s ≡ true) × LengthFacts s (state states owners lists calls queue (fresh s).threads.device)
tables-fit {s} e f =
    let fits = fitting-passed s _ (sym (e (fresh s).threads.device) ∙ f) in
    let kept = length-facts s _ fits.1 in
    (fits.0, record { states = kept.states; owners = kept.owners; lists = kept.lists; calls = kept.calls; queue = kept.queue })

-- the laws that the check tries at each goal
pub ruleset checks = (sound, shape-allowed, lengths-right, tables-valid, states-length)
