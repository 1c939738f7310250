-- A call that is open and not waiting stays as it is over every step but a build and its own thread's go on while that thread runs.
-- Assumes nothing.
use Rattle.std.specs.Prelude.{◌≡◌, refl, Bool, true, false, ◌&&◌, ℕ, ◌+◌, ◌<◌, eqb}
use Rattle.std.proofs.Common.{sym, ◌∙◌, ap, true≢false, inl, inr, arith, eq-eqb}
use Rattle.std.proofs.Math.Decide.{ℕ_discrete}
use Rattle.laws.specs.Tests.{both_of}
use Rattle.shape.specs.declared.Shape.{Shape}
use Rattle.rules.specs.declared.Call.{Call}
use Rattle.rules.specs.Numbers.{CLOSED, WAITING}
use Rattle.rules.specs.Tables.{State, call_of}
use Rattle.rules.specs.Steps.{Outcome}
use Rattle.history.specs.History.{Step, Build, Ask, GoOn, Give, Switch, Tick, Whole, step_on}
use Rattle.history.specs.Walk.{EachGoOn}
use Rattle.history.proofs.Walk.{each_step}
use Rattle.proved_frames.specs.Others.{maker, CallStays}
use Rattle.proved_frames.proofs.Others.{others-stay}

abbrev pub builds : Step → Bool
builds Build = true
builds (Ask t size ms) = false
builds (GoOn t) = false
builds (Give t i) = false
builds (Switch t) = false
builds Tick = false
builds Whole = false

-- the step is thread u's go on, and u runs
abbrev pub turn : State → ℕ → Step → Bool
turn T u Build = false
turn T u (Ask t size ms) = false
turn T u (GoOn t) = eqb t u && eqb T.threads.device.running (u + 1)
turn T u (Give t i) = false
turn T u (Switch t) = false
turn T u Tick = false
turn T u Whole = false

-- what holds of every outcome holds of each way in which a go on may end
every_way : {P : Outcome → Type 0} {s : Shape} {T : State} {t : ℕ} {c : Call} → ((o : Outcome) → P o) → EachGoOn P s T t c
every_way f =
    record {
      ends = λ r e a. f _;
      finds = λ l a q. f _;
      blocks = λ a n d. f _;
      again = λ e. f _;
      takes = λ b bs e q. f _;
      splits = λ d h. f _;
      grants = λ d h. f _;
      settles = λ r e. f _;
      merges = λ r e. f _;
    }

module _ (s : Shape) (T : State) (u : ℕ) (h : u < s.threads) (opened : (call_of T.threads.calls u).stage ≡ CLOSED → ⊥)
    (awake : (call_of T.threads.calls u).stage ≡ WAITING → ⊥) where
  -- the thread's own step that is no turn of it is refused, as its call is open
  abbrev OwnStays : Step → Outcome → Type 0
  OwnStays x o = maker x ≡ u + 1 → turn T u x ≡ false → call_of o.after.threads.calls u ≡ call_of T.threads.calls u

  shut : (t : ℕ) → (call_of T.threads.calls t).stage ≡ CLOSED → t + 1 ≡ u + 1 → ⊥
  shut t e m = let q : u ≡ t = omega arith in opened (ap (λ (k : ℕ). (call_of T.threads.calls k).stage) q ∙ e)

  turned : (t : ℕ) → T.threads.device.running ≡ t + 1 → t + 1 ≡ u + 1 → turn T u (GoOn t) ≡ false → ⊥
  turned t r m n = true≢false (sym (both_of _ _ (eq-eqb t u (omega arith)) (eq-eqb _ _ (r ∙ m))) ∙ n)

  own-stays : (x : Step) → OwnStays x (step_on s T x)
  own-stays =
      each_step OwnStays s T
      (record {
        stays = λ x r e u m n. refl;
        builds = λ a m n. absurd (omega arith);
        asks = λ t size ms g o k m n. absurd (shut t o m);
        goes = λ t g. every_way (λ o m n. absurd (turned t g.running m n));
        gives = λ t i g o p a w m n. absurd (shut t o m);
        switches = λ t k w m n. refl;
        ticks = λ v m e. absurd (omega arith);
        whole = λ m n. refl;
        not-whole = λ m n. refl;
      })

  pub call_stays :
      (x : Step) → builds x ≡ false → turn T u x ≡ false → call_of (step_on s T x).after.threads.calls u ≡ call_of T.threads.calls u
  call_stays x b n = go (ℕ_discrete (maker x) (u + 1))
    where
      still : CallStays T.threads.calls (step_on s T x).after.threads.calls u → call_of (step_on s T x).after.threads.calls u ≡ call_of T.threads.calls u
      still (inl e) = e
      still (inr (w, _)) = absurd (awake w)

      go : Dec (maker x ≡ u + 1) → call_of (step_on s T x).after.threads.calls u ≡ call_of T.threads.calls u
      go (yes m) = own-stays x m n
      go (no m) = still (others-stay s T x u h m (λ e. true≢false (sym (ap builds e) ∙ b)))
