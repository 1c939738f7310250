-- The walk over one step of a history: what holds of each way in which a step may end holds of the step.
-- Assumes nothing.
use Rattle.std.specs.Prelude.{Ok, Err, Some, None, Option, ◌≡◌, Bool, true, false, cond, ◌&&◌, ℕ, ◌<◌, eqb}
use Rattle.std.proofs.Math.Path.{refl}
use mathlib.Core.List.{List, [], ◌∷◌}
use Rattle.std.proofs.Math.Decide.{dec_lt, ℕ_discrete}
use Rattle.std.proofs.Common.{arith}
use borrow.Author.Tests.{ltb-true, ltb-false, lt-ltb, eqb-true, eqb-false, eq-eqb, ne_eqb, not-false}
use Rattle.shape.specs.declared.Shape.{Shape}
use Rattle.shape.specs.Blocks.{level_for}
use Rattle.shape.specs.Time.{wait}
use Rattle.rules.specs.declared.Call.{Call}
use Rattle.rules.specs.declared.Refusal.{Refusal}
use Rattle.rules.specs.declared.Refusal.TheVariants.{ShapeNotAllowed, WrongLength, NotValid, NoThread, NotRunning, NoRoom, TimedOut}
use Rattle.rules.specs.declared.Answer.TheVariants.{Built}
use Rattle.rules.specs.declared.Answer.TheVariants as answers
use Rattle.rules.specs.Numbers.{CLOSED, ASKED, FOUND, DIVIDING, RELEASING, NEVER, TIMED, CLOCK-END}
use Rattle.rules.specs.Answers.{refusal_number}
use Rattle.rules.specs.Tables.{State, free_list, call_of, fresh}
use Rattle.rules.specs.Steps.{Outcome, outcome, only_call, closed, deepest, no_room, look_at, look, take_from, take_step, divide_step, release_step, go_on_step}
use Rattle.rules.specs.Refusals.{Verdict}
use Rattle.rules.specs.Refusals.{through, checked, refused, refuse, by_running, running, held_by, failing}
use Rattle.rules.specs.Calls.{build, is_outside, ask_step, ask, go_on, give_step, give, switch_step, switch, tick_step, tick}
use Rattle.facts.specs.Verdict.{by-fitting, by-verdict}
use Rattle.rules.specs.Questions.{is_whole, whole}
use Rattle.facts.specs.Lines.{Sound}
use Rattle.history.specs.History.{Step, Build, Ask, GoOn, Give, Switch, Tick, Whole, step_on}
use Rattle.facts.specs.Stage.{left_over}
use Rattle.history.specs.Listed.{listed_for}
use Rattle.facts.specs.Running.{Running, own-facts, ready}
use Rattle.history.specs.Walk.{leaves, EachGoOn, EachStep}

module _ (P : Outcome → Type 0) (s : Shape) (T : State) (t : ℕ) (c : Call) (g : EachGoOn P s T t c) where
  -- by the two ways of a test, with what it says or without
  on-either : (b : Bool) (x y : Outcome) → (b ≡ true → P x) → (b ≡ false → P y) → P (cond b x y)
  on-either true x y f g = f refl
  on-either false x y f g = g refl

  either_way : (b : Bool) (x y : Outcome) → P x → P y → P (cond b x y)
  either_way b x y p q = on-either b x y (λ _. p) (λ _. q)

  -- asked: a timed call ends once the clock is past its deadline, and with the clock there it does not wait
  looks : c.stage ≡ ASKED → P (look s T t c)
  unfolding look look_at no_room
  looks a = go (ℕ_discrete c.wait TIMED) (dec_lt c.deadline T.threads.device.clock) (dec_lt T.threads.device.clock c.deadline)
    where
      late : P (outcome (Err TimedOut) (only_call T t closed))
      late = g.ends TimedOut refl a

      late-or : P (look_at s T t c (deepest T.pool.lists (level_for s c.size))) → P (look s T t c)
      late-or p = let q = late in search either_way

      due :
          (r : Option ℕ) → deepest T.pool.lists (level_for s c.size) ≡ r → c.wait ≡ TIMED → c.deadline ≡ T.threads.device.clock →
          P (look_at s T t c r)
      due (Some l) q w d = g.finds l a q
      due None q w d = rw (ne_eqb c.wait NEVER (omega arith), eq-eqb c.wait TIMED w, eq-eqb _ _ d) late

      other :
          (r : Option ℕ) → deepest T.pool.lists (level_for s c.size) ≡ r → (c.wait ≡ TIMED → T.threads.device.clock < c.deadline) →
          P (look_at s T t c r)
      other (Some l) q k = g.finds l a q
      other None q k =
          on-either (eqb c.wait NEVER) _ _ (λ _. g.ends NoRoom refl a) (λ n.
          either_way (eqb c.wait TIMED && eqb c.deadline T.threads.device.clock) _ _ late (g.blocks a (eqb-false _ _ n) k))

      go : Dec (c.wait ≡ TIMED) → Dec (c.deadline < T.threads.device.clock) → Dec (T.threads.device.clock < c.deadline) → P (look s T t c)
      go (yes w) (yes l) h = simp (eq-eqb c.wait TIMED w, lt-ltb _ _ l) late
      go (yes w) (no l) (no h) = late-or (due _ refl w (omega arith))
      go (yes w) (no l) (yes h) = late-or (other _ refl (λ _. h))
      go (no w) l h = late-or (other _ refl (λ q. absurd (w q)))

  -- found: by the level's list
  takes : c.stage ≡ FOUND → P (take_step s T t c)
  unfolding take_step
  takes f = at (free_list s T.pool.lists c.level) refl
    where
      at : (bs : List ℕ) → free_list s T.pool.lists c.level ≡ bs → P (take_from s T t c bs)
      at [] q = g.again f
      at (b ∷ bs) q = g.takes b bs f q

  goes_on : Running s T t c → (c.stage ≡ CLOSED → ⊥) → P (go_on_step s T t c)
  unfolding go_on_step divide_step release_step
  goes_on w n =
      on-either _ _ _ (λ a. looks (eqb-true _ _ a)) (λ a.
      on-either _ _ _ (λ f. takes (eqb-true _ _ f)) (λ f.
      on-either _ _ _
      (λ d. on-either _ _ _ (λ h. g.splits (eqb-true _ _ d) (ltb-true _ _ h)) (λ h. g.grants (eqb-true _ _ d) (ltb-false _ _ h)))
      (λ d. on-either _ _ _ (g.merges (releasing (eqb-false _ _ a) (eqb-false _ _ f) (eqb-false _ _ d)))
      (g.settles (releasing (eqb-false _ _ a) (eqb-false _ _ f) (eqb-false _ _ d))))))
    where
      releasing : (c.stage ≡ ASKED → ⊥) → (c.stage ≡ FOUND → ⊥) → (c.stage ≡ DIVIDING → ⊥) → c.stage ≡ RELEASING
      releasing a f d = left_over c (own-facts w).fields n a f d (ready w)

-- past each refusal that leaves all as it was
module _ (P : Step → Outcome → Type 0) (s : Shape) (T : State) (e : EachStep P s T) (x : Step) where
  -- those from the fourth on, which sound tables may meet
  past-failing :
      (b : Bool) (r : Refusal) (next : Verdict) (rest : Outcome) → leaves x r ≡ true → 3 < refusal_number r →
      (b ≡ false → P x (through (refused T) next rest)) → P x (through (refused T) (failing b r next) rest)
  past-failing true r next rest k n f = e.stays x r k (λ _. n)
  past-failing false r next rest k n f = f refl

  past :
      (b : Bool) (r : Refusal) (rest : Outcome) → leaves x r ≡ true → 3 < refusal_number r → (b ≡ false → P x rest) →
      P x (refuse b r T rest)
  past true r rest k n f = e.stays x r k (λ _. n)
  past false r rest k n f = f refl

  -- the first three, which they don't
  past-checked :
      (rest : Outcome) → leaves x ShapeNotAllowed ≡ true → leaves x WrongLength ≡ true → leaves x NotValid ≡ true →
      (Sound s T → P x rest) → P x (checked (refused T) s T rest)
  past-checked rest i j k f =
      by-verdict (λ v. P x (through (refused T) v rest)) (first _ i) (first _ j) (first _ k) f
    where
      first : (r : Refusal) → leaves x r ≡ true → (Sound s T → ⊥) → P x (refused T r)
      first r l n = e.stays x r l (λ g. absurd (n g))

  past-running :
      (t : ℕ) (rest : Outcome) → leaves x ShapeNotAllowed ≡ true → leaves x WrongLength ≡ true → leaves x NotValid ≡ true →
      leaves x NoThread ≡ true → leaves x NotRunning ≡ true → (Running s T t (call_of T.threads.calls t) → P x rest) →
      P x (checked (refused T) s T (by_running s T t rest))
  unfolding running
  past-running t rest i j k m n f =
      past-checked _ i j k (λ v.
      past-failing _ _ _ _ m (omega arith) (λ h.
      past-failing _ _ _ _ n (omega arith) (λ r.
      f (record { sound = v; thread = ltb-true _ _ (not-false _ h); running = eqb-true _ _ (not-false _ r); own = refl }))))

module _ (P : Step → Outcome → Type 0) (s : Shape) (T : State) (e : EachStep P s T) where
  -- the question changes nothing
  answers-whole : (w : Bool) → P Whole (outcome (cond w (Ok answers.Whole) (Ok answers.NotWhole)) T)
  answers-whole true = e.whole
  answers-whole false = e.not-whole

  pub each_step : (x : Step) → P x (step_on s T x)
  unfolding listed_for step_on build ask ask_step go_on running give give_step held_by switch switch_step tick tick_step whole
  each_step Build =
      by-fitting (λ v. P Build (through (refused T) v (outcome (Ok Built) (fresh s))))
      (λ n. e.stays Build ShapeNotAllowed refl (λ g. absurd (n g)))
      (λ n. e.stays Build WrongLength refl (λ g. absurd (n g)))
      (λ a _. e.builds a)
  each_step (Ask t size ms) =
      past-running P s T e (Ask t size ms) t _ refl refl refl refl refl (λ g.
      past P s T e (Ask t size ms) _ _ _ refl (omega arith) (λ o.
      past P s T e (Ask t size ms) _ _ _ refl (omega arith) (λ h.
      past P s T e (Ask t size ms) (is_outside (wait ms)) _ _ refl (omega arith) (λ _.
      e.asks t size ms g (eqb-true _ _ (not-false _ o)) (ltb-false _ _ h)))))
  each_step (GoOn t) =
      past-running P s T e (GoOn t) t _ refl refl refl refl refl (λ g.
      past P s T e (GoOn t) _ _ _ refl (omega arith) (λ o.
      goes_on (P (GoOn t)) s T t (call_of T.threads.calls t) (e.goes t g) g (eqb-false _ _ o)))
  each_step (Give t i) =
      past-running P s T e (Give t i) t _ refl refl refl refl refl (λ g.
      past P s T e (Give t i) _ _ _ refl (omega arith) (λ o.
      past-failing P s T e (Give t i) _ _ _ _ refl (omega arith) (λ p.
      past-failing P s T e (Give t i) _ _ _ _ refl (omega arith) (λ a.
      past-failing P s T e (Give t i) _ _ _ _ refl (omega arith) (λ w.
      e.gives t i g (eqb-true _ _ (not-false _ o)) p (eqb-true _ _ (not-false _ a)) (eqb-true _ _ (not-false _ w)))))))
  each_step (Switch t) =
      past-checked P s T e (Switch t) _ refl refl refl (λ _.
      past P s T e (Switch t) _ _ _ refl (omega arith) (λ h.
      past P s T e (Switch t) _ _ _ refl (omega arith) (λ w. e.switches t (ltb-true _ _ (not-false _ h)) (eqb-false _ _ w))))
  each_step Tick =
      past-checked P s T e Tick _ refl refl refl (λ v.
      past P s T e Tick (eqb T.threads.device.clock CLOCK-END) _ _ refl (omega arith) (λ _. e.ticks v))
  each_step Whole =
      by-verdict (λ v. P Whole (outcome (through Err v (cond (is_whole s T) (Ok answers.Whole) (Ok answers.NotWhole))) T))
      (λ n. e.stays Whole ShapeNotAllowed refl (λ g. absurd (n g)))
      (λ n. e.stays Whole WrongLength refl (λ g. absurd (n g)))
      (λ n. e.stays Whole NotValid refl (λ g. absurd (n g)))
      (λ _. answers-whole (is_whole s T))
