-- A script's records on sound tables: fresh tables are sound, each record leaves them sound, and none stops the run.
-- Assumes nothing.
use Rattle.std.specs.Prelude.{◌≡◌, refl, false}
use Rattle.std.proofs.Common.{true≢false}
use Rattle.shape.specs.declared.Shape.{Shape}
use Rattle.rules.specs.declared.script.Record.{Record}
use Rattle.rules.specs.declared.script.Record.TheVariants.{Pool, Ask, ShortAsk, GoOn, Give, Switch, Tick, Whole}
use Rattle.rules.specs.Tables.{State}
use Rattle.facts.specs.Lines.{Sound}
use Rattle.rules.specs.Script.{short_wait}
use Rattle.rules.specs.Listing.{record_step}
use Rattle.history.specs.History as history
use Rattle.history.specs.History.{step_on}
use Rattle.proved_valid.specs.Histories.{steps-valid}
use Rattle.script_read.specs.Forms.{is_pool}
use Rattle.script_turn.specs.GoesOn.{GoesOn, steps-go-on}

-- each record but a shape's is a step
step_of : (r : Record) → is_pool r ≡ false → history.Step
step_of (Pool q) e = absurd (true≢false e)
step_of (Ask t size m) e = history.Ask t size m.0
step_of (ShortAsk t size) e = history.Ask t size short_wait.0
step_of (GoOn t) e = history.GoOn t
step_of (Give t i) e = history.Give t i
step_of (Switch t) e = history.Switch t
step_of Tick e = history.Tick
step_of Whole e = history.Whole

step-of : (s : Shape) (T : State) (r : Record) (e : is_pool r ≡ false) → record_step s T r ≡ step_on s T (step_of r e)
unfolding record_step step_on step_of
step-of s T (Pool q) e = absurd (true≢false e)
step-of s T (Ask t size m) e = refl
step-of s T (ShortAsk t size) e = refl
step-of s T (GoOn t) e = refl
step-of s T (Give t i) e = refl
step-of s T (Switch t) e = refl
step-of s T Tick e = refl
step-of s T Whole e = refl

module _ {s : Shape} {T : State} (g : Sound s T) (r : Record) (e : is_pool r ≡ false) where
  pub record-sound : Sound s (record_step s T r).after
  record-sound = rw (step-of s T r e) (steps-valid s T (step_of r e) g)

  -- refusal 1 comes from no record but a shape's
  pub record-goes-on : GoesOn (record_step s T r)
  record-goes-on = rw (step-of s T r e) (steps-go-on g (step_of r e))
