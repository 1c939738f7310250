-- A thread that runs on sound tables opens a request that may not wait, and goes on: it runs on sound tables still.
-- Assumes nothing.
use Rattle.std.specs.Prelude.{Ok, ◌≡◌, ℕ, ◌≤◌, pos}
use Rattle.std.proofs.Math.Path.{refl}
use Rattle.std.proofs.Common.{◌∙◌, ap}
use borrow.Author.Tests.{le-ltb}
use Rattle.shape.specs.declared.Shape.{Shape}
use Rattle.shape.specs.Time.{wait}
use Rattle.rules.specs.declared.Call.{Call}
use Rattle.rules.specs.declared.Answer.TheVariants.{Opened}
use Rattle.rules.specs.Numbers.{CLOSED, ASKED, NEVER}
use Rattle.rules.specs.Tables.{State, put_call}
use Rattle.facts.specs.Given.{length-facts}
use Rattle.rules.specs.Steps.{Outcome, outcome, only_call}
use Rattle.rules.specs.Calls.{ask_step, asked_call, ask, go_on}
use Rattle.history.specs.History.{Step, Ask, GoOn, step_on}
use Rattle.facts.specs.Running.{Running}
use Rattle.proved_valid.specs.OneCall.{put-mine}
use Rattle.proved_valid.specs.Histories.{steps-valid}
use Rattle.facts.specs.Verdict.{passes, running-passes}

-- a call that is asked and may not wait
abbrev pub asking : ℕ → Call
asking size = record { stage = ASKED; size = size; wait = NEVER; deadline = 0; level = 0; block = 0 }

-- a request of that size that may not wait
abbrev pub ask_now : Shape → State → ℕ → ℕ → Outcome
ask_now s T t size = ask s T t size (record { 0 = pos 0 })

module _ (s : Shape) (T : State) (t : ℕ) (c : Call) (g : Running s T t c) where
  -- the thread with no call open opens one
  pub ask-running : c.stage ≡ CLOSED → (size : ℕ) → size ≤ s.top_size → ask_now s T t size ≡ outcome (Ok Opened) (only_call T t (asking size))
  unfolding ask ask_step asked_call wait
  ask-running e size h =
      rw (passes g.sound, running-passes s T.threads.device t g.thread g.running, g.own, e, le-ltb s.top_size size h)

  -- a step that puts another call and keeps the record leaves the thread running on sound tables
  stepped :
      (x : Step) (U : State) (d : Call) → (step_on s T x).after ≡ U → U.threads.device.running ≡ T.threads.device.running →
      U.threads.calls ≡ put_call T.threads.calls t d → Running s U t d
  stepped x U d e r q =
      record {
        sound = rw e at (steps-valid s T x g.sound);
        thread = g.thread;
        running = r ∙ g.running;
        own = rw q (put-mine s T.threads.calls t d (length-facts s T g.sound.lengths).calls g.thread);
      }

  pub go_on-runs :
      (U : State) (d : Call) → (go_on s T t).after ≡ U → U.threads.device.running ≡ T.threads.device.running →
      U.threads.calls ≡ put_call T.threads.calls t d → Running s U t d
  unfolding step_on
  go_on-runs U d = stepped (GoOn t) U d

  pub ask-runs : c.stage ≡ CLOSED → (size : ℕ) → size ≤ s.top_size → Running s (only_call T t (asking size)) t (asking size)
  unfolding step_on
  ask-runs e size h =
      stepped (Ask t size (pos 0)) (only_call T t (asking size)) (asking size) (ap (λ (o : Outcome). o.after) (ask-running e size h)) refl refl
