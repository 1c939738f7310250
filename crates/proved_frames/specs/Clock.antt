-- Document 01, 'Calls and steps': only a tick raises the clock, and only a switch and a look that blocks change who runs; build begins
-- anew.
-- Assumes nothing.
use Rattle.std.specs.Prelude.{Ok, ◌≡◌, refl, ◌⊎◌, ℕ, ◌+◌}
use Rattle.std.proofs.Common.{ap, inl, inr}
use Rattle.shape.specs.declared.Shape.{Shape}
use Rattle.rules.specs.declared.Call.{Call}
use Rattle.rules.specs.declared.Device.{Device}
use Rattle.rules.specs.declared.Answer.TheVariants.{Waiting}
use Rattle.rules.specs.Tables.{State}
use Rattle.rules.specs.Steps.{Outcome, take_from, split_step, grant_step, merge_step, settle_step}
use Rattle.history.specs.History.{Step, Build, GoOn, Switch, Tick, step_on}
use Rattle.history.specs.Walk.{EachGoOn}
use Rattle.history.proofs.Walk.{each_step}

-- the clock and who runs
abbrev device : ℕ → ℕ → Device
device clock running = record { clock = clock; running = running }

-- a go on that blocks its thread: nobody runs
abbrev Blocks : State → Step → Outcome → Type 0
Blocks T x o = (t : ℕ) × (x ≡ GoOn t) × (o.answer ≡ Ok Waiting) × (o.after.threads.device ≡ device T.threads.device.clock 0)

-- what a step leaves of the record
abbrev Record : State → Step → Outcome → Type 0
Record T x o =
    (o.after.threads.device ≡ T.threads.device)
    ⊎ (x ≡ Build)
    ⊎ ((x ≡ Tick) × (o.after.threads.device ≡ device (T.threads.device.clock + 1) T.threads.device.running))
    ⊎ ((t : ℕ) × (x ≡ Switch t) × (o.after.threads.device ≡ device T.threads.device.clock (t + 1)))
    ⊎ Blocks T x o

go-on-record : (s : Shape) (T : State) (t : ℕ) (c : Call) → EachGoOn (Record T (GoOn t)) s T t c
unfolding take_from split_step grant_step merge_step settle_step
go-on-record s T t c =
    record {
      ends = λ r e a. inl refl;
      finds = λ l a q. inl refl;
      blocks = λ a n d. inr (inr (inr (inr (t, refl, refl, refl))));
      again = λ f. inl refl;
      takes = λ b bs f q. inl refl;
      splits = λ d h. inl refl;
      grants = λ d h. inl refl;
      settles = λ r e. inl refl;
      merges = λ r e. inl refl;
    }

steps-record : (s : Shape) (T : State) (x : Step) → Record T x (step_on s T x)
steps-record s T =
    each_step (Record T) s T
    (record {
      stays = λ x r e u. inl refl;
      builds = λ a. inr (inl refl);
      asks = λ t size ms g o h. inl refl;
      goes = λ t g. go-on-record s T t _;
      gives = λ t i g o p a w. inl refl;
      switches = λ t h w. inr (inr (inr (inl (t, refl, refl))));
      ticks = λ k. inr (inr (inl (refl, refl)));
      whole = inl refl;
      not-whole = inl refl;
    })

-- only a tick and build change the clock
pub clock-stays :
    (s : Shape) (T : State) (x : Step) → (x ≡ Tick → ⊥) → (x ≡ Build → ⊥) →
    (step_on s T x).after.threads.device.clock ≡ T.threads.device.clock
clock-stays s T x n m = go (steps-record s T x)
  where
    go : Record T x (step_on s T x) → (step_on s T x).after.threads.device.clock ≡ T.threads.device.clock
    go (inl e) = ap (λ (d : Device). d.clock) e
    go (inr (inl b)) = absurd (m b)
    go (inr (inr (inl (k, e)))) = absurd (n k)
    go (inr (inr (inr (inl (t, k, e))))) = ap (λ (d : Device). d.clock) e
    go (inr (inr (inr (inr (t, k, a, e))))) = ap (λ (d : Device). d.clock) e

-- only a switch, build and a go on that blocks its thread change who runs
pub running-stays :
    (s : Shape) (T : State) (x : Step) → ((t : ℕ) → x ≡ Switch t → ⊥) → (x ≡ Build → ⊥) →
    ((step_on s T x).after.threads.device.running ≡ T.threads.device.running)
    ⊎ ((t : ℕ) × (x ≡ GoOn t) × ((step_on s T x).answer ≡ Ok Waiting) × ((step_on s T x).after.threads.device.running ≡ 0))
running-stays s T x n m = go (steps-record s T x)
  where
    go :
        Record T x (step_on s T x) →
        ((step_on s T x).after.threads.device.running ≡ T.threads.device.running)
        ⊎ ((t : ℕ) × (x ≡ GoOn t) × ((step_on s T x).answer ≡ Ok Waiting) × ((step_on s T x).after.threads.device.running ≡ 0))
    go (inl e) = inl (ap (λ (d : Device). d.running) e)
    go (inr (inl b)) = absurd (m b)
    go (inr (inr (inl (k, e)))) = inl (ap (λ (d : Device). d.running) e)
    go (inr (inr (inr (inl (t, k, e))))) = absurd (n t k)
    go (inr (inr (inr (inr (t, k, a, e))))) = inr (t, k, a, ap (λ (d : Device). d.running) e)
