-- Over any history without a build, whatever the other threads do: a dividing call is granted its block at the thread's go on after as many
-- turns as there are splits left, and a releasing call ends within one turn more than its level.
-- Assumes nothing.
use Rattle.std.specs.Prelude.{Ok, ◌≡◌, Bool, ◌||◌, ◌⊎◌, List, [], ◌∷◌, ℕ, suc, ◌+◌, ◌-◌, ◌/◌, ◌≤◌, ◌<◌, length, take, eqb}
use Rattle.std.proofs.Math.Path.{refl, sym, ap}
use Rattle.std.proofs.Common.{◌∙◌, true≢false, eqb-true}
use Rattle.std.proofs.Math.Bool.{true, false}
use Rattle.std.proofs.lemmas.Bool.{false≢true}
use Rattle.std.proofs.Math.Logic.{inl, inr}
use native.Mathlib.Omega.{arith}
use Rattle.laws.specs.Tests.{bit, both}
use Rattle.shape.specs.declared.Shape.{Shape}
use Rattle.shape.specs.Limits.{parts}
use Rattle.shape.specs.Blocks.{id}
use Rattle.rules.specs.declared.Call.{Call}
use Rattle.rules.specs.declared.Answer.TheVariants.{Granted, Merged, Settled}
use Rattle.rules.specs.Numbers.{DIVIDING, RELEASING}
use Rattle.rules.specs.Tables.{State, queue_of, call_of}
use Rattle.rules.specs.Steps.{closed, holding}
use Rattle.rules.specs.Calls.{go_on}
use Rattle.facts.specs.Lines.{Sound}
use Rattle.history.specs.History.{Step, Build, Ask, GoOn, Give, Switch, Tick, Whole, step_on, run_steps}
use Rattle.facts.specs.Running.{Running}
use Rattle.proved_valid.specs.Histories.{steps-valid, runs-valid}
use Rattle.proved_progress.specs.Own.{left_of, Next, left-falls, own-grants, own-releases}
use Rattle.proved_progress.specs.Stays.{builds, turn, call_stays}

-- how many turns thread u has in a history: its go-on steps while it runs
unfoldable pub turns : Shape → State → ℕ → List Step → ℕ
turns s T u [] = 0
turns s T u (x ∷ xs) = bit (turn T u x) + turns s (step_on s T x).after u xs

-- some step of the history builds
unfoldable pub built : List Step → Bool
built [] = false
built (x ∷ xs) = builds x || built xs

neither : (a b : Bool) → (a || b) ≡ false → (a ≡ false) × (b ≡ false)
neither false b e = (refl, e)
neither true b e = absurd (true≢false e)

-- a call was dividing, and is so for the same size after n turns
pub record Divides (s : Shape) (before after : Call) (n : ℕ) : Type 0 where
  pub stage : after.stage ≡ DIVIDING
  pub size : after.size ≡ before.size
  pub left : left_of s after + n ≡ left_of s before

module _ (s : Shape) (T : State) (u : ℕ) (k : Sound s T) (thread : u < s.threads) where
  -- a turn is the thread's go on, while it runs
  turn_is : (x : Step) → turn T u x ≡ true → (x ≡ GoOn u) × Running s T u (call_of T.threads.calls u)
  turn_is Build e = absurd (false≢true e)
  turn_is (Ask t size ms) e = absurd (false≢true e)
  turn_is (GoOn t) e =
      let w = both (eqb t u) (eqb T.threads.device.running (u + 1)) e in
      (ap GoOn (eqb-true t u w.0), record { sound = k; thread = thread; running = eqb-true _ _ w.1; own = refl })
  turn_is (Give t i) e = absurd (false≢true e)
  turn_is (Switch t) e = absurd (false≢true e)
  turn_is Tick e = absurd (false≢true e)
  turn_is Whole e = absurd (false≢true e)

  -- one step: what is left falls by the turn, where the step is one
  divides-one :
      (x : Step) (b : Bool) → turn T u x ≡ b → builds x ≡ false → (call_of T.threads.calls u).stage ≡ DIVIDING →
      bit b ≤ left_of s (call_of T.threads.calls u) →
      Divides s (call_of T.threads.calls u) (call_of (step_on s T x).after.threads.calls u) (bit b)
  unfolding step_on
  divides-one x true e n d h =
      let w = turn_is x e in
      rw w.0
      (let f = left-falls w.1 d (left_of s (call_of T.threads.calls u) - 1) (omega arith) _ refl in
      record { stage = f.0; size = f.1; left = omega (arith, f.2) })
  divides-one x false e n d h =
      rw (call_stays s T u thread (λ q. omega (arith, sym d ∙ q)) (λ q. omega (arith, sym d ∙ q)) x n e)
      (record { stage = d; size = refl; left = omega arith })

  -- releasing, one step: the level falls by the turn, or the call is closed
  releases-one :
      (x : Step) (b : Bool) → turn T u x ≡ b → builds x ≡ false → (call_of T.threads.calls u).stage ≡ RELEASING →
      (((call_of (step_on s T x).after.threads.calls u).stage ≡ RELEASING)
      × ((call_of (step_on s T x).after.threads.calls u).level + bit b ≡ (call_of T.threads.calls u).level))
      ⊎ (call_of (step_on s T x).after.threads.calls u ≡ closed)
  unfolding step_on
  releases-one x true e n d = let w = turn_is x e in rw w.0 (pick (own-releases w.1 d))
    where
      pick :
          ((0 < (call_of T.threads.calls u).level)
          × Next (go_on s T u) u (holding RELEASING 0 ((call_of T.threads.calls u).level - 1) ((call_of T.threads.calls u).block / parts s))
          (Ok (Merged (id s ((call_of T.threads.calls u).level - 1) ((call_of T.threads.calls u).block / parts s)))))
          ⊎ Next (go_on s T u) u closed (Ok (Settled (length (queue_of T.threads.queue)))) →
          (((call_of (go_on s T u).after.threads.calls u).stage ≡ RELEASING)
          × ((call_of (go_on s T u).after.threads.calls u).level + 1 ≡ (call_of T.threads.calls u).level))
          ⊎ (call_of (go_on s T u).after.threads.calls u ≡ closed)
      pick (inl (h, q)) = inl (ap (λ (c : Call). c.stage) q.1, omega (arith, h, ap (λ (c : Call). c.level) q.1))
      pick (inr q) = inr q.1
  releases-one x false e n d =
      inl
      (rw (call_stays s T u thread (λ q. omega (arith, sym d ∙ q)) (λ q. omega (arith, sym d ∙ q)) x n e)
      (d, omega arith))

-- so over a history
pub divides-on :
    (s : Shape) (u : ℕ) (xs : List Step) (T : State) → Sound s T → u < s.threads → built xs ≡ false →
    (call_of T.threads.calls u).stage ≡ DIVIDING → turns s T u xs ≤ left_of s (call_of T.threads.calls u) →
    Divides s (call_of T.threads.calls u) (call_of (run_steps s T xs).threads.calls u) (turns s T u xs)
unfolding turns built run_steps
divides-on s u [] T k l n d h = record { stage = d; size = refl; left = omega arith }
divides-on s u (x ∷ xs) T k l n d h =
    go (divides-one s T u k l x (turn T u x) refl w.0 d (omega arith))
    (divides-on s u xs (step_on s T x).after (steps-valid s T x k) l w.1)
  where
    w : (builds x ≡ false) × (built xs ≡ false)
    w = neither (builds x) (built xs) n

    go :
        Divides s (call_of T.threads.calls u) (call_of (step_on s T x).after.threads.calls u) (bit (turn T u x)) →
        ((call_of (step_on s T x).after.threads.calls u).stage ≡ DIVIDING →
        turns s (step_on s T x).after u xs ≤ left_of s (call_of (step_on s T x).after.threads.calls u) →
        Divides s (call_of (step_on s T x).after.threads.calls u) (call_of (run_steps s (step_on s T x).after xs).threads.calls u)
        (turns s (step_on s T x).after u xs)) →
        Divides s (call_of T.threads.calls u) (call_of (run_steps s (step_on s T x).after xs).threads.calls u)
        (bit (turn T u x) + turns s (step_on s T x).after u xs)
    go one below =
        let more = below one.stage (omega (arith, one.left)) in
        record {
          stage = more.stage;
          size = more.size ∙ one.size;
          left = omega (arith, one.left, more.left);
        }

-- after as many turns as there were splits left the thread's next turn grants the block and closes the call
pub divides-ends :
    (s : Shape) (u : ℕ) (xs : List Step) (T : State) → Sound s T → u < s.threads → built xs ≡ false →
    (call_of T.threads.calls u).stage ≡ DIVIDING → turns s T u xs ≡ left_of s (call_of T.threads.calls u) →
    (run_steps s T xs).threads.device.running ≡ u + 1 →
    ((step_on s (run_steps s T xs) (GoOn u)).answer
    ≡ Ok (Granted (id s (call_of (run_steps s T xs).threads.calls u).level (call_of (run_steps s T xs).threads.calls u).block)))
    × (call_of (step_on s (run_steps s T xs) (GoOn u)).after.threads.calls u ≡ closed)
unfolding step_on
divides-ends s u xs T k l n d e r =
    own-grants (record { sound = runs-valid s xs T k; thread = l; running = r; own = refl }) was.stage (omega (arith, was.left))
  where
    was : Divides s (call_of T.threads.calls u) (call_of (run_steps s T xs).threads.calls u) (turns s T u xs)
    was = divides-on s u xs T k l n d (omega arith)

-- a releasing call is closed somewhere in a history in which its thread has more turns than the block's level
pub releases-end :
    (s : Shape) (u : ℕ) (xs : List Step) (T : State) → Sound s T → u < s.threads → built xs ≡ false →
    (call_of T.threads.calls u).stage ≡ RELEASING → (call_of T.threads.calls u).level < turns s T u xs →
    (n : ℕ) × (call_of (run_steps s T (take n xs)).threads.calls u ≡ closed)
unfolding turns built run_steps
releases-end s u [] T k l n d h = absurd (omega arith)
releases-end s u (x ∷ xs) T k l n d h =
    go (releases-one s T u k l x (turn T u x) refl w.0 d)
    (releases-end s u xs (step_on s T x).after (steps-valid s T x k) l w.1)
  where
    w : (builds x ≡ false) × (built xs ≡ false)
    w = neither (builds x) (built xs) n

    go :
        (((call_of (step_on s T x).after.threads.calls u).stage ≡ RELEASING)
        × ((call_of (step_on s T x).after.threads.calls u).level + bit (turn T u x) ≡ (call_of T.threads.calls u).level))
        ⊎ (call_of (step_on s T x).after.threads.calls u ≡ closed) →
        ((call_of (step_on s T x).after.threads.calls u).stage ≡ RELEASING →
        (call_of (step_on s T x).after.threads.calls u).level < turns s (step_on s T x).after u xs →
        (n : ℕ) × (call_of (run_steps s (step_on s T x).after (take n xs)).threads.calls u ≡ closed)) →
        (n : ℕ) × (call_of (run_steps s T (take n (x ∷ xs))).threads.calls u ≡ closed)
    go (inl (q, f)) below = let more = below q (omega (arith, f)) in (suc more.0, more.1)
    go (inr q) below = (1, q)
