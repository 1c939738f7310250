-- A thread goes on until its call ends, or so many times.
-- Assumes nothing.
use Rattle.std.specs.Prelude.{◌≡◌, refl, Bool, true, false, cond, ◌∷◌, ℕ, zero, suc, ◌+◌, ◌≤◌, pos, replicate, eqb}
use Rattle.std.proofs.Common.{arith, eq-eqb, ne_eqb}
use Rattle.shape.specs.declared.Shape.{Shape}
use Rattle.rules.specs.Numbers.{CLOSED}
use Rattle.rules.specs.Tables.{State, call_of}
use Rattle.rules.specs.Steps.{Outcome}
use Rattle.rules.specs.Calls.{go_on}
use Rattle.history.specs.History.{Ask, GoOn, step_on, run_steps}
use Rattle.proved_granted.specs.Stepped.{ask_now}

-- thread t's call as a step leaves it is not open
abbrev pub Ended : ℕ → Outcome → Type 0
Ended t o = (call_of o.after.threads.calls t).stage ≡ CLOSED

-- what the last step left, where thread t goes on from there until its call ends, at most n times
unfoldable pub until : Shape → ℕ → ℕ → Outcome → Outcome
until s t zero o = o
until s t (suc n) o = cond (eqb (call_of o.after.threads.calls t).stage CLOSED) o (until s t n (go_on s o.after t))

-- a request that may not wait and its go-on steps, with nothing in between, as many as there are levels and two at the most
unfoldable pub request : Shape → State → ℕ → ℕ → Outcome
request s T t size = until s t (s.levels + 2) (ask_now s T t size)

pub until-ended : (s : Shape) (t n : ℕ) (o : Outcome) → Ended t o → until s t n o ≡ o
unfolding until
until-ended s t zero o e = refl
until-ended s t (suc n) o e = rw (eq-eqb _ _ e)

pub until_open :
    (s : Shape) (t n : ℕ) (o : Outcome) → (Ended t o → ⊥) → until s t (suc n) o ≡ until s t n (go_on s o.after t)
unfolding until
until_open s t n o e = rw (ne_eqb _ _ e)

-- the go-on steps are a history, of n steps at the most
pub until-steps :
    (s : Shape) (t n : ℕ) (o : Outcome) →
    (m : ℕ) × (m ≤ n) × ((until s t n o).after ≡ run_steps s o.after (replicate m (GoOn t)))
unfolding until run_steps step_on
until-steps s t zero o = (0, omega arith, refl)
until-steps s t (suc n) o =
    pick (eqb (call_of o.after.threads.calls t).stage CLOSED) (until-steps s t n (go_on s o.after t))
  where
    pick :
        (b : Bool) →
        (m : ℕ) × (m ≤ n)
        × ((until s t n (go_on s o.after t)).after ≡ run_steps s (go_on s o.after t).after (replicate m (GoOn t))) →
        (m : ℕ) × (m ≤ suc n)
        × ((cond b o (until s t n (go_on s o.after t))).after ≡ run_steps s o.after (replicate m (GoOn t)))
    pick true k = (0, omega arith, refl)
    pick false (m, h, e) = (suc m, omega arith, e)

-- so is a request: the ask, and as many go-on steps as there are levels and two at the most
pub request-steps :
    (s : Shape) (T : State) (t size : ℕ) →
    (m : ℕ) × (m ≤ s.levels + 2)
    × ((request s T t size).after ≡ run_steps s T (Ask t size (pos 0) ∷ replicate m (GoOn t)))
unfolding request run_steps step_on
request-steps s T t size = until-steps s t (s.levels + 2) (ask_now s T t size)
