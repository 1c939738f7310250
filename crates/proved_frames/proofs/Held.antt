-- What a thread holds it holds over every history in which it does not give it back.
-- Assumes nothing.
use Rattle.std.specs.Prelude.{ℕ, List, [], ◌∷◌}
use Rattle.shape.specs.declared.Shape.{Shape}
use Rattle.rules.specs.Tables.{State}
use Rattle.facts.specs.Lines.{Sound}
use Rattle.history.specs.History.{Step, step_on, run_steps}
use Rattle.proved_valid.specs.Histories.{steps-valid}
use Rattle.proved_frames.specs.Held.{Holds, holds-stay, KeepsBlock}

-- so it holds it over any such history
pub history-holds :
    (s : Shape) (T : State) (xs : List Step) (u k : ℕ) → Sound s T → KeepsBlock s u k xs → Holds T u k → Holds (run_steps s T xs) u k
unfolding KeepsBlock run_steps
history-holds s T [] u k v n w = w
history-holds s T (x ∷ xs) u k v (n, m, rest) w =
    history-holds s (step_on s T x).after xs u k (steps-valid s T x v) rest (holds-stay s T x u k v n m w)
