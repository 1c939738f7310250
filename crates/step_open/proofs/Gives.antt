-- What a give back of a block that the thread holds comes to.
-- Assumes nothing.
use Rattle.std.specs.Prelude.{Ok}
use mathlib.Core.Path.{◌≡◌}
use mathlib.Core.List.{List}
use Prim.Native.Nat.{ℕ}
use borrow.Author.Tests.{eq-eqb}
use Rattle.shape.specs.declared.Shape.{Shape}
use Rattle.shape.specs.Blocks.{id_level, id_block}
use Rattle.rules.specs.declared.Device.{Device}
use Rattle.rules.specs.declared.Call.{Call}
use Rattle.rules.specs.declared.Answer.TheVariants.{Opened}
use Rattle.rules.specs.Numbers.{CLOSED}
use Rattle.rules.specs.Tables.{state, call_of}
use Rattle.rules.specs.Steps.{Outcome, outcome}
use Rattle.rules.specs.Refusals.{Verdict, refused, held_by}
use Rattle.rules.specs.Calls.{given, give_step}
use Rattle.facts.specs.Verdict.{goes}

module _ (s : Shape) (states owners lists calls queue : List ℕ) (d : Device) (t i : ℕ) {c : Call} where
  pub held :
      {v : Verdict} {o : Outcome} {l b : ℕ} → c ≡ call_of calls t → c.stage ≡ CLOSED → v ≡ held_by s states owners t i →
      v ≡ Ok tt → l ≡ id_level i → b ≡ id_block i →
      o ≡ outcome (Ok Opened) (given s (state states owners lists calls queue d) t l b) →
      o ≡ give_step s (state states owners lists calls queue d) t i
  unfolding give_step
  held mine h e f x y p = rw (← mine, eq-eqb c.stage CLOSED h) (goes (refused _) _ e f (rw (x, y) at p))
