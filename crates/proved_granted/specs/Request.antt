-- A request that may not wait, from the ask to its end: it looks, and then ends without room, or takes a block and splits it until it is granted.
-- Assumes nothing.
use Rattle.std.specs.Prelude.{◌≡◌, List}
use Rattle.std.proofs.Common.{ap}
use Prim.Native.Nat.{ℕ, ◌≤◌}
use Rattle.shape.specs.declared.Shape.{Shape}
use Rattle.rules.specs.Numbers.{CLOSED}
use Rattle.rules.specs.Tables.{State, call_of, state, put_call}
use Rattle.rules.specs.Steps.{closed, only_call}
use Rattle.facts.specs.Given.{length-facts}
use Rattle.facts.specs.Running.{Running, own-facts}
use Rattle.proved_valid.specs.CallLines.{closed_is}
use Rattle.proved_valid.specs.OneCall.{put_back}
use Rattle.proved_granted.specs.Stepped.{asking}
use Rattle.proved_granted.specs.Takes.{finding}

-- thread t runs on valid tables, has no call open, and asks for a size up to the largest block
pub record Asks (s : Shape) (T : State) (t size : ℕ) : Type 0 where
  pub runs : Running s T t (call_of T.threads.calls t)
  pub is_closed : (call_of T.threads.calls t).stage ≡ CLOSED
  pub fits : size ≤ s.top_size

-- the tables once it has asked, and once it has found level l
abbrev pub asked : State → ℕ → ℕ → State
asked T t size = only_call T t (asking size)

-- the same tables with other calls
abbrev with_calls : State → List ℕ → State
with_calls T calls = state T.pool.states T.pool.owners T.pool.lists calls T.threads.queue T.threads.device

abbrev pub found : State → ℕ → ℕ → ℕ → State
found T t size l = only_call (asked T t size) t (finding size l)

module _ (s : Shape) (T : State) (t size : ℕ) (a : Asks s T t size) where
  -- the call that it opens, closed again, leaves the tables as they were before it was asked
  pub closed-again : only_call (asked T t size) t closed ≡ T
  closed-again = ap (λ (calls : List ℕ). with_calls T calls) back
    where
      was : call_of T.threads.calls t ≡ closed
      was = closed_is (call_of T.threads.calls t) (own-facts a.runs).fields a.is_closed

      back : put_call (put_call T.threads.calls t (asking size)) t closed ≡ T.threads.calls
      back = rw (← was) (put_back s T.threads.calls t (asking size) (length-facts s T a.runs.sound.lengths).calls a.runs.thread)
