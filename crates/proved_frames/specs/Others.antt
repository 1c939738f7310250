-- Document 01, 'Calls and steps': no step of one thread changes another thread's call, save that a waiting call may become asked.
-- Assumes nothing.
use Rattle.std.specs.Prelude.{◌≡◌, ◌⊎◌, List, ℕ, ◌+◌}
use Rattle.rules.specs.Numbers.{WAITING}
use Rattle.rules.specs.Tables.{State, call_of}
use Rattle.rules.specs.Steps.{Outcome}
use Rattle.proved_valid.specs.Woken.{woken}
use Rattle.history.specs.History.{Step, Build, Ask, GoOn, Give, Switch, Tick, Whole}

-- whose step it is: t + 1 is thread t, and 0 is nobody
abbrev pub maker : Step → ℕ
maker Build = 0
maker (Ask t size ms) = t + 1
maker (GoOn t) = t + 1
maker (Give t i) = t + 1
maker (Switch t) = 0
maker Tick = 0
maker Whole = 0

-- thread u's call in a table of calls and in a later one: as it was, or it waited and is asked
abbrev pub CallStays : List ℕ → List ℕ → ℕ → Type 0
CallStays before after u =
    (call_of after u ≡ call_of before u)
    ⊎ (((call_of before u).stage ≡ WAITING) × (call_of after u ≡ woken (call_of before u)))

-- where the step is another's
abbrev pub OtherStays : State → ℕ → Step → Outcome → Type 0
OtherStays T u x o = (maker x ≡ u + 1 → ⊥) → (x ≡ Build → ⊥) → CallStays T.threads.calls o.after.threads.calls u
