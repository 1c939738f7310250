-- Valid tables, part by part as they are checked: they are valid where all parts pass.
-- Assumes nothing.
use Rattle.std.proofs.Common.{◌≡◌, refl, sym, ◌∙◌, Bool, true, false, true≢false, ◌&&◌}
use Rattle.laws.specs.Tests.{both, both_of}
use Rattle.shape.specs.declared.Shape.{Shape}
use Rattle.rules.specs.Numbers.{FREEING, ALLOCATING}
use Rattle.rules.specs.Tables.{State}
use Rattle.rules.specs.Valid.{list_ends, free_listed, calls_kept, dividing, releasing, one_to_one, queue_ends, waiters_queued, running_ready, valid}
use Rattle.facts.specs.Lines.{ValidFacts, valid-facts, facts-valid}
use Rattle.check_tree.specs.Tree.{tree_valid}

-- what each check decides
abbrev pub tree : Shape → State → Bool
tree s T = tree_valid s T.pool.states T.pool.owners

abbrev pub lists : Shape → State → Bool
lists s T = list_ends s T.pool.lists && free_listed s T.pool.states T.pool.lists

abbrev pub calls : Shape → State → Bool
calls s T = calls_kept s T.threads.device.clock T.threads.calls

abbrev pub hands : Shape → State → Bool
hands s T =
    one_to_one ALLOCATING dividing s T.pool.states T.threads.calls
    && one_to_one FREEING releasing s T.pool.states T.threads.calls

abbrev queue : Shape → State → Bool
queue s T =
    queue_ends s T.threads.queue
    && waiters_queued s T.threads.calls T.threads.queue
    && running_ready s T.threads.calls T.threads.device

-- all of them
abbrev pub all : Shape → State → Bool
all s T = tree s T && lists s T && calls s T && hands s T && queue s T

passing : (s : Shape) (T : State) → ValidFacts s T → all s T ≡ true
passing s T f =
    both_of _ _
    (both_of _ _
    (both_of _ _
    (both_of _ _
    (both_of _ _ (both_of _ _ f.pool.states_known f.pool.owners_known)
    (both_of _ _ (both_of _ _ (both_of _ _ f.pool.tops_exist f.pool.parts_exist) f.pool.deepest_whole) f.pool.buddies_merged))
    (both_of _ _ f.pool.list_ends f.pool.free_listed))
    f.threads.calls_kept)
    (both_of _ _ f.hands.allocating f.hands.freeing))
    (both_of _ _ (both_of _ _ f.threads.queue_ends f.threads.waiters_queued) f.threads.running_ready)

passed : (s : Shape) (T : State) → all s T ≡ true → ValidFacts s T
passed s T e =
    let p4 = both _ _ e in
    let p3 = both _ _ p4.0 in
    let p2 = both _ _ p3.0 in
    let p1 = both _ _ p2.0 in
    let t1 = both _ _ p1.0 in
    let known = both _ _ t1.0 in
    let t2 = both _ _ t1.1 in
    let t3 = both _ _ t2.0 in
    let t4 = both _ _ t3.0 in
    let list = both _ _ p1.1 in
    let hand = both _ _ p3.1 in
    let q1 = both _ _ p4.1 in
    let q2 = both _ _ q1.0 in
    record {
      pool =
          record {
            states_known = known.0;
            list_ends = list.0;
            tops_exist = t4.0;
            parts_exist = t4.1;
            deepest_whole = t3.1;
            buddies_merged = t2.1;
            free_listed = list.1;
            owners_known = known.1;
          };
      threads = record { queue_ends = q2.0; calls_kept = p2.1; waiters_queued = q2.1; running_ready = q1.1 };
      hands = record { allocating = hand.0; freeing = hand.1 };
    }

-- two tests that pass together are one
alike : (a b : Bool) → (a ≡ true → b ≡ true) → (b ≡ true → a ≡ true) → a ≡ b
alike true b f g = sym (f refl)
alike false true f g = g refl
alike false false f g = refl

pub in-parts : (s : Shape) (T : State) → valid s T ≡ all s T
in-parts s T =
    alike _ _ (λ e. passing s T (valid-facts s T e)) (λ e. facts-valid s T (passed s T e))

-- a test that is made where the ones before it passed, and one that is not made where they failed
module _ {v a p : Bool} where
  pub tested : {b q : Bool} → v ≡ b → a ≡ true → a ≡ p → b ≡ q → v ≡ (p && q)
  tested e h f g = e ∙ g ∙ rw (sym f ∙ h) refl

  pub untested : (q : Bool) → v ≡ a → a ≡ false → a ≡ p → v ≡ (p && q)
  untested q e h f = e ∙ h ∙ rw (sym f ∙ h) refl

-- what failed did not pass
pub passes : {v a : Bool} {A : Type 0} → v ≡ a → a ≡ false → v ≡ true → A
passes e h f = absurd (true≢false (sym f ∙ e ∙ h))
