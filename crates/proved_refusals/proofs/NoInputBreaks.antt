-- Demand 1, 'No input breaks it', proved: for every shape, all tables and every call.
-- Assumes nothing.
use Rattle.std.specs.Prelude.{Err, Result, ◌≡◌, refl, Bool, true, false, cond, ◌⊎◌, List, ℕ, length, ltb, eqb}
use Rattle.std.proofs.Common.{sym, ◌∙◌, ap, true≢false, inl, inr, arith, eqb-true}
use Rattle.std.proofs.lemmas.Bool.{not-true}
use Rattle.laws.specs.Tests.{both, either}
use Rattle.shape.specs.declared.Shape.{Shape}
use Rattle.shape.specs.Blocks.{bytes}
use Rattle.rules.specs.declared.Call.{Call}
use Rattle.rules.specs.declared.Refusal.{Refusal}
use Rattle.rules.specs.declared.Refusal.TheVariants.{ShapeNotAllowed, WrongLength, NotValid, OffsetOutside, RowTooShort}
use Rattle.rules.specs.declared.Covered.{Covered}
use Rattle.rules.specs.Answers.{Answered, refusal_number, number}
use Rattle.rules.specs.Tables.{State}
use Rattle.rules.specs.Steps.{Outcome, outcome, only_call, closed, take_from, split_step, grant_step, merge_step, settle_step}
use Rattle.rules.specs.Refusals.{through, checked}
use Rattle.rules.specs.Questions.{cover, map_ids, MapOutcome, map_outcome, map_row, map_pool}
use Rattle.facts.specs.Verdict.{by-verdict}
use Rattle.history.specs.History.{Step, GoOn, step_on}
use Rattle.history.specs.Listed.{Entry, entry, listed_for}
use Rattle.history.specs.Walk.{closes, leaves, EachGoOn}
use Rattle.history.proofs.Walk.{each_step}
use Rattle.proved_refusals.specs.NoInputBreaks.{StepEnds, CoverEnds, MapEnds, NoInputBreaks}

same : (r q : Refusal) → ◌≡◌ {A = Answered} (Err r) (Err q) → q ≡ r
same r q e = cc

-- the step is made
module _ (T : State) (x : Step) (o : Outcome) (e : listed_for (entry x) (number o.answer) ≡ true) where
  made : ((r : Refusal) → o.answer ≡ Err r → ◌≡◌ {A = ℕ} 0 1) → StepEnds T x o
  made n =
      record { listed = e; untouched = λ r q k. absurd (omega (arith, n r q)); closing = λ r q k. absurd (omega (arith, n r q)) }

-- it is refused, and leaves all as it was
stays : (T : State) (x : Step) (r : Refusal) → leaves x r ≡ true → StepEnds T x (outcome (Err r) T)
stays T x r e =
    record {
      listed = (both (listed_for (entry x) (refusal_number r)) _ e).0;
      untouched = λ q d k. refl;
      closing = λ q d k.
          absurd (true≢false (sym k ∙ ap closes (same r q d) ∙ not-true _ (both (listed_for (entry x) (refusal_number r)) _ e).1));
    }

-- it ends without a block, and closes its call
ends : (T : State) (t : ℕ) (r : Refusal) → closes r ≡ true → StepEnds T (GoOn t) (outcome (Err r) (only_call T t closed))
unfolding listed_for
ends T t r k =
    record {
      listed = given (either (eqb (refusal_number r) 14) _ k);
      untouched = λ q d n. absurd (true≢false (sym k ∙ ap closes (sym (same r q d)) ∙ n));
      closing = λ q d n. (t, refl, refl);
    }
  where
    given : (eqb (refusal_number r) 14 ≡ true) ⊎ (eqb (refusal_number r) 15 ≡ true) → listed_for Entry.go_on (refusal_number r) ≡ true
    given (inl e) = rw (eqb-true (refusal_number r) 14 e) refl
    given (inr e) = rw (eqb-true (refusal_number r) 15 e) refl

go-on-ends : (s : Shape) (T : State) (t : ℕ) (c : Call) → EachGoOn (StepEnds T (GoOn t)) s T t c
unfolding listed_for take_from split_step grant_step merge_step settle_step
go-on-ends s T t c =
    record {
      ends = λ r k a. ends T t r k;
      finds = λ l a q. made T (GoOn t) _ refl (λ r e. cc);
      blocks = λ a n d. made T (GoOn t) _ refl (λ r e. cc);
      again = λ f. made T (GoOn t) _ refl (λ r e. cc);
      takes = λ b bs f q. made T (GoOn t) _ refl (λ r e. cc);
      splits = λ d h. made T (GoOn t) _ refl (λ r e. cc);
      grants = λ d h. made T (GoOn t) _ refl (λ r e. cc);
      settles = λ r e. made T (GoOn t) _ refl (λ r e. cc);
      merges = λ r e. made T (GoOn t) _ refl (λ r e. cc);
    }

steps-end : (s : Shape) (T : State) (x : Step) → StepEnds T x (step_on s T x)
unfolding listed_for
steps-end s T =
    each_step (StepEnds T) s T
    (record {
      stays = λ x r e u. stays T x r e;
      builds = λ a. made T _ _ refl (λ r e. cc);
      asks = λ t size ms g o h. made T _ _ refl (λ r e. cc);
      goes = λ t g. go-on-ends s T t _;
      gives = λ t i g o p a w. made T _ _ refl (λ r e. cc);
      switches = λ t h w. made T _ _ refl (λ r e. cc);
      ticks = λ v. made T _ _ refl (λ r e. cc);
      whole = made T _ _ refl (λ r e. cc);
      not-whole = made T _ _ refl (λ r e. cc);
    })

-- the refusals that every question tries first, and then its own
module _ {A : Type 0} (Q : A → Type 0) (refused : Refusal → A) (s : Shape) (T : State) (rest : A) where
  on-answer :
      Q (refused ShapeNotAllowed) → Q (refused WrongLength) → Q (refused NotValid) → Q rest → Q (checked refused s T rest)
  on-answer a l v q = by-verdict (λ w. Q (through refused w rest)) (λ _. a) (λ _. l) (λ _. v) (λ _. q)

cover-ends : (s : Shape) (T : State) (offset : ℕ) → CoverEnds (cover s T offset)
unfolding listed_for cover
cover-ends s T offset =
    on-answer CoverEnds Err s T _ (refusing _ refl) (refusing _ refl) (refusing _ refl)
    (own (ltb offset (bytes s)) _ (λ r e. cc))
  where
    same-cover : (r q : Refusal) → ◌≡◌ {A = Result Covered Refusal} (Err r) (Err q) → r ≡ q
    same-cover r q e = cc

    refusing : (r : Refusal) → listed_for Entry.cover (refusal_number r) ≡ true → CoverEnds (Err r)
    refusing r k q e = rw (← same-cover r q e) k

    own : (b : Bool) (found : Result Covered Refusal) → CoverEnds found → CoverEnds (cond b found (Err OffsetOutside))
    own true found k = k
    own false found k = refusing OffsetOutside refl

map-ends : (s : Shape) (T : State) (row : List ℕ) → MapEnds row (map_pool s T row)
unfolding listed_for map_pool map_row
map-ends s T row =
    on-answer (MapEnds row) (λ r. map_outcome (Err r) row) s T _ (refusing _ refl) (refusing _ refl) (refusing _ refl)
    (own (ltb (length row) (length (map_ids s T.pool.states))) _ (λ r e. (cc, cc)))
  where
    same_map : (r q : Refusal) → ◌≡◌ {A = Result ℕ Refusal} (Err r) (Err q) → r ≡ q
    same_map r q e = cc

    refusing : (r : Refusal) → listed_for Entry.map (refusal_number r) ≡ true → MapEnds row (map_outcome (Err r) row)
    refusing r k q e = (rw (← same_map r q e) k, refl)

    own : (b : Bool) (written : MapOutcome) → MapEnds row written → MapEnds row (cond b (map_outcome (Err RowTooShort) row) written)
    own true written k = refusing RowTooShort refl
    own false written k = k

pub no-input-breaks : (s : Shape) (T : State) → NoInputBreaks s T
no-input-breaks s T = record { steps = steps-end s T; covers = cover-ends s T; maps = map-ends s T }
