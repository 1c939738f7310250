-- What the steps need of sound tables, as the check looks for it by itself.
-- Assumes nothing.
use Rattle.std.specs.Prelude.{◌≡◌, Ok, List, length, ℕ, ◌+◌, ◌*◌, ◌<◌}
use Rattle.std.proofs.Math.Path.{refl}
use Rattle.std.proofs.Common.{sym, ◌∙◌, ap, arith}
use Rattle.shape.specs.declared.Shape.{Shape}
use Rattle.shape.specs.Blocks.{blocks}
use Rattle.shape.specs.Laws.{limits}
use Rattle.rules.specs.declared.Device.{Device}
use Rattle.rules.specs.declared.Call.{Call}
use Rattle.rules.specs.Refusals.{Verdict, running}
use Rattle.rules.specs.Numbers.{CELLS, CLOSED}
use Rattle.rules.specs.Tables.{state, call_of}
use Rattle.facts.specs.Lines.{Sound}
use Rattle.facts.specs.Call.{HasCall}
use Rattle.facts.specs.Verdict.{running-passed}
pub use Rattle.facts.specs.Verdict.{passes}
use Rattle.step_open.specs.OpenNeeds.{Gives}
use Rattle.step_go_on.specs.GoesOn.{GoesOn}
use Rattle.pool_sound.specs.Sound.{right-lengths}
pub use Rattle.pool_sound.specs.Sound.{queue-ready, members-inside}

module _ {s : Shape} {states owners lists calls queue : List ℕ} {d : Device} (g : Sound s (state states owners lists calls queue d)) where
  -- the lengths that a step reads
  pub states-length : length states ≡ blocks s
  states-length = (right-lengths g).states

  pub calls-length : length calls ≡ CELLS * s.threads
  calls-length = (right-lengths g).calls

  pub queue-length : length queue ≡ s.threads + 1
  queue-length = (right-lengths g).queue

  -- a thread that may step: it is one of the shape, and runs
  module _ (t : ℕ) {v : Verdict} (e : v ≡ running s d t) (f : v ≡ Ok tt) where
    mine : (t < s.threads) × (d.running ≡ t + 1)
    mine = running-passed s d t (sym e ∙ f)

    pub has-call : HasCall calls t
    has-call = omega (arith, mine.0, calls-length)

    pub may-give : Gives s states owners calls t
    may-give =
        record {
          owned =
              record {
                shape = g.shape;
                whole = states-length;
                owned = (right-lengths g).owners;
                small = omega (arith, mine.0, (limits s g.shape).threads.1);
              };
          mine = has-call;
        }

    pub may-go-on : {c : Call} → c ≡ call_of calls t → (c.stage ≡ CLOSED → ⊥) → GoesOn s (state states owners lists calls queue d) t
    may-go-on m n =
        record {
          runs = record { sound = g; thread = mine.0; running = mine.1; own = refl };
          is_open = λ q. n (ap (λ (k : Call). k.stage) m ∙ q);
        }

-- sound tables pass the first three refusals, and have what the step needs
pub ruleset needs = (passes, states-length, calls-length, queue-length, queue-ready, members-inside, has-call, may-give, may-go-on)
