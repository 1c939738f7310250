-- A request that may not wait, from the ask to its end: it looks, and then ends without room, or takes a block and splits it until it is granted.
-- Assumes nothing.
use Rattle.std.specs.Prelude.{Ok, Err, Some, None, ◌≡◌, List, ◌∷◌, get_or}
use Rattle.std.proofs.Common.{sym, ◌∙◌, ap, add-one}
use Prim.Native.Nat.{ℕ, suc, ◌+◌, ◌*◌, ◌≤◌, ◌<◌}
use native.Mathlib.Omega.{arith}
use Rattle.shape.specs.declared.Shape.{Shape}
use Rattle.shape.specs.Limits.{parts}
use Rattle.shape.specs.Blocks.{level_for}
use Rattle.shape.specs.Laws.{limits, level_for-inside}
use Rattle.rules.specs.declared.Call.{Call}
use Rattle.rules.specs.declared.Refusal.TheVariants.{NoRoom}
use Rattle.rules.specs.declared.Answer.TheVariants.{Opened, Found}
use Rattle.rules.specs.Numbers.{CLOSED}
use Rattle.rules.specs.Tables.{State, free_list, call_of}
use Rattle.rules.specs.Steps.{Outcome, outcome, deepest, take_from, split_step}
use Rattle.rules.specs.Calls.{go_on}
use Rattle.proved_bytes.specs.Found.{deepest-some}
use Rattle.facts.specs.Running.{Running}
use Rattle.proved_granted.specs.Stepped.{asking, ask-running, ask-runs}
use Rattle.proved_granted.specs.Until.{until, request, until-ended, until_open}
use Rattle.proved_granted.specs.Divides.{dividing, Grant}
use Rattle.proved_granted.proofs.Divides.{divides-to-grant}
use Rattle.proved_granted.specs.Takes.{finding, looks-nowhere, looks-at, at-runs, takes, take_runs, first-listed}
use Rattle.proved_granted.specs.Request.{Asks, asked, found, closed-again}

-- the thread with a call open goes on
goes_on :
    (s : Shape) (t n : ℕ) (o : Outcome) (c : Call) → Running s o.after t c → (c.stage ≡ CLOSED → ⊥) →
    until s t (suc n) o ≡ until s t n (go_on s o.after t)
goes_on s t n o c g h = until_open s t n o (λ e. h (sym (ap (λ (c : Call). c.stage) g.own) ∙ e))

module _ (s : Shape) (T : State) (t size : ℕ) (a : Asks s T t size) where
  asked-runs : Running s (asked T t size) t (asking size)
  asked-runs = ask-runs s T t (call_of T.threads.calls t) a.runs a.is_closed size a.fits

  -- the request opens, and its first go-on step looks
  request-looks : request s T t size ≡ until s t (s.levels + 1) (go_on s (asked T t size) t)
  unfolding request
  request-looks =
      let e : s.levels + 2 ≡ suc (s.levels + 1) = omega arith in
      rw (e, ask-running s T t (call_of T.threads.calls t) a.runs a.is_closed size a.fits)
      (goes_on s t (s.levels + 1) (outcome (Ok Opened) (asked T t size)) (asking size) asked-runs (λ e. omega arith))

  -- no room at any level: it ends there, and nothing has changed
  pub request-nowhere : deepest T.pool.lists (level_for s size) ≡ None → request s T t size ≡ outcome (Err NoRoom) T
  request-nowhere e =
      request-looks
      ∙ rw (looks-nowhere s (asked T t size) t size asked-runs e, closed-again s T t size a)
      (until-ended s t (s.levels + 1) (outcome (Err NoRoom) T) a.is_closed)

  module _ (l : ℕ) (e : deepest T.pool.lists (level_for s size) ≡ Some l) where
    found-runs : Running s (found T t size l) t (finding size l)
    found-runs = at-runs s (asked T t size) t size asked-runs l e

    -- its second takes a block
    request-takes : request s T t size ≡ until s t s.levels (go_on s (found T t size l) t)
    request-takes =
        request-looks
        ∙ rw (looks-at s (asked T t size) t size asked-runs l e, add-one s.levels)
        (goes_on s t s.levels (outcome (Ok (Found l)) (found T t size l)) (finding size l) found-runs (λ e. omega arith))

    -- each one after that goes one level deeper, up to the grant; what holds of the block taken, and of the first part after each split, holds then
    pub request-granted :
        (P : State → ℕ → ℕ → Type 0) →
        ((U : State) (l b : ℕ) → Running s U t (dividing size l b) → l < level_for s size → P U l b →
        P (split_step s U t (dividing size l b)).after (l + 1) (parts s * b)) →
        ((b : ℕ) (bs : List ℕ) → free_list s T.pool.lists l ≡ b ∷ bs →
        P (take_from s (found T t size l) t (finding size l) (b ∷ bs)).after l b) →
        Grant s t size (λ U b. P U (level_for s size) b) (request s T t size)
    request-granted P next first = go (first-listed s (found T t size l) t size l found-runs some.0 some.1)
      where
        some : (l ≤ level_for s size) × (0 < get_or T.pool.lists l 0)
        some = deepest-some T.pool.lists (level_for s size) l e

        go :
            (b : ℕ) × (bs : List ℕ) × (free_list s T.pool.lists l ≡ b ∷ bs) →
            Grant s t size (λ U b. P U (level_for s size) b) (request s T t size)
        go (b, bs, q) =
            rw (request-takes, takes s (found T t size l) t size l found-runs, q)
            (divides-to-grant s t size P next s.levels l b _ (take_runs s (found T t size l) t size l found-runs b bs q)
            (first b bs q)
            some.0
            (omega (arith, level_for-inside s size (limits s a.runs.sound.shape).levels.0)))
