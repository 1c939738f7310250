-- Demand 2: the pool is called whole exactly when all its bytes are free and no thread has a call open.
-- Assumes nothing.
use Rattle.std.specs.Prelude.{◌≡◌, false, ℕ, ◌<◌}
use Rattle.std.proofs.Common.{sym}
use Rattle.std.proofs.Math.Bool.{true}
use Rattle.std.proofs.Math.Dec.{eqb}
use borrow.Author.Tests.{eqb-true}
use Rattle.laws.specs.Tests.{every, every-at, both, fails}
use Rattle.shape.specs.declared.Shape.{Shape}
use Rattle.shape.specs.Blocks.{bytes}
use Rattle.rules.specs.Numbers.{FREE, CLOSED}
use Rattle.rules.specs.Tables.{State, state_at, call_of}
use Rattle.rules.specs.Questions.{is_whole}
use Rattle.proved_bytes.specs.Bytes.{FreeByte}

-- all bytes are free, and no thread has a call open
pub record Whole (s : Shape) (T : State) : Type 0 where
  pub free : (y : ℕ) → y < bytes s → FreeByte s T.pool.states y
  pub closed : (t : ℕ) → t < s.threads → (call_of T.threads.calls t).stage ≡ CLOSED

-- the accident: a thread whose call is open at any stage, holding nothing, keeps the pool from being whole
pub open-call-not-whole :
    (s : Shape) (T : State) (t : ℕ) → t < s.threads → ((call_of T.threads.calls t).stage ≡ CLOSED → ⊥) → is_whole s T ≡ false
unfolding is_whole
open-call-not-whole s T t h n = sym (fails (is_whole s T) closed-then)
  where
    closed-then : is_whole s T ≡ true → ⊥
    closed-then e =
        n
        (eqb-true (call_of T.threads.calls t).stage CLOSED
        (every-at s.threads (λ u. eqb (call_of T.threads.calls u).stage CLOSED)
        (both (every s.tops (λ b. eqb (state_at s T.pool.states 0 b) FREE)) _ e).1
        t
        h))
