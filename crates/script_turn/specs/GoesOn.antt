-- On sound tables no step stops the run: refusal 1 comes from the shape alone.
-- Assumes nothing.
use Rattle.std.specs.Prelude.{Err, ◌≡◌, refl, true, false, ◌⊎◌, ℕ, eqb}
use Rattle.std.proofs.Common.{inl, inr, arith, eqb-true, ne_eqb}
use Rattle.laws.specs.Tests.{either}
use Rattle.shape.specs.declared.Shape.{Shape}
use Rattle.rules.specs.declared.Call.{Call}
use Rattle.rules.specs.declared.Refusal.{Refusal}
use Rattle.rules.specs.Answers.{refusal_number}
use Rattle.rules.specs.Tables.{State}
use Rattle.rules.specs.Steps.{Outcome, take_from, split_step, grant_step, merge_step, settle_step}
use Rattle.rules.specs.Listing.{stops}
use Rattle.facts.specs.Lines.{Sound}
use Rattle.history.specs.History.{Step, step_on}
use Rattle.history.specs.Walk.{closes, EachGoOn}
use Rattle.history.proofs.Walk.{each_step}

-- the run goes on behind a step
pub record GoesOn (o : Outcome) : Type 0 where
  pub on : stops o.answer ≡ false

-- also behind one that ended a call without a block
ended : (r : Refusal) → closes r ≡ true → stops (Err r) ≡ false
ended r k = go (either (eqb (refusal_number r) 14) _ k)
  where
    go : (eqb (refusal_number r) 14 ≡ true) ⊎ (eqb (refusal_number r) 15 ≡ true) → stops (Err r) ≡ false
    go (inl e) = rw (eqb-true (refusal_number r) 14 e) refl
    go (inr e) = rw (eqb-true (refusal_number r) 15 e) refl

go-on-goes-on : (s : Shape) (T : State) (t : ℕ) (c : Call) → EachGoOn GoesOn s T t c
unfolding take_from split_step grant_step merge_step settle_step
go-on-goes-on s T t c =
    record {
      ends = λ r k a. record { on = ended r k };
      finds = λ l a q. record { on = refl };
      blocks = λ a n d. record { on = refl };
      again = λ f. record { on = refl };
      takes = λ b bs f q. record { on = refl };
      splits = λ d h. record { on = refl };
      grants = λ d h. record { on = refl };
      settles = λ r e. record { on = refl };
      merges = λ r e. record { on = refl };
    }

pub steps-go-on : {s : Shape} {T : State} → Sound s T → (x : Step) → GoesOn (step_on s T x)
steps-go-on {s} {T} g =
    each_step (λ x o. GoesOn o) s T
    (record {
      stays = λ x r e u. record { on = ne_eqb (refusal_number r) 1 (λ q. omega (arith, u g, q)) };
      builds = λ a. record { on = refl };
      asks = λ t size ms g o h. record { on = refl };
      goes = λ t g. go-on-goes-on s T t _;
      gives = λ t i g o p a w. record { on = refl };
      switches = λ t h w. record { on = refl };
      ticks = λ v. record { on = refl };
      whole = record { on = refl };
      not-whole = record { on = refl };
    })
