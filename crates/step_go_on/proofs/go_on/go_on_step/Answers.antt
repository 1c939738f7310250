-- `step_go_on::go_on::go_on_step` meets its contract: valid tables give the step of the call's stage what it needs.
-- Assumes nothing.
use Rattle.std.proofs.Common.{ap, subst, sym, ◌∙◌, arith}
use Rattle.rules.specs.declared.Call.{Call}
use Rattle.rules.specs.Tables.{state}
use Rattle.step_take.specs.TakeNeeds.{Takes, Divides}
use Rattle.step_release.specs.ReleaseNeeds.{Settles}
use Rattle.step_go_on.specs.GoesOn.{mine, looks, takes, divides, settles}
use Rattle.step_go_on.proofs.go_on.go_on_step.Goals as goal

pub call_of-c-requires : goal.call_of-c-requires
call_of-c-requires c =
    let tables = state c.args.states.now c.args.owners.now c.args.lists.now c.args.calls.now c.args.queue.now c.args.d.now in
    mine c.args.s tables c.args.t c.requires

pub look_step-requires : goal.look_step-requires
look_step-requires c =
    let tables = state c.args.states.now c.args.owners.now c.args.lists.now c.args.calls.now c.args.queue.now c.args.d.now in
    looks c.args.s tables c.args.t c.requires

pub take_step-requires : goal.take_step-requires
take_step-requires c =
    let tables = state c.args.states.now c.args.owners.now c.args.lists.now c.args.calls.now c.args.queue.now c.args.d.now in
    subst (λ (k : Call). Takes c.args.s c.args.states.now c.args.lists.now c.args.calls.now c.args.t k) (sym c.call_of-c.ensures)
    (takes c.args.s tables c.args.t c.requires
    (ap (λ (k : Call). k.stage) (sym c.call_of-c.ensures) ∙ c.in-2.is))

pub divide_step-answer-requires : goal.divide_step-answer-requires
divide_step-answer-requires c =
    let tables = state c.args.states.now c.args.owners.now c.args.lists.now c.args.calls.now c.args.queue.now c.args.d.now in
    subst (λ (k : Call). Divides c.args.s c.args.states.now c.args.owners.now c.args.lists.now c.args.calls.now c.args.t k) (sym c.call_of-c.ensures)
    (divides c.args.s tables c.args.t c.requires
    (ap (λ (k : Call). k.stage) (sym c.call_of-c.ensures) ∙ c.in-3.is))

pub release_step-answer-requires : goal.release_step-answer-requires
release_step-answer-requires c =
    let tables = state c.args.states.now c.args.owners.now c.args.lists.now c.args.calls.now c.args.queue.now c.args.d.now in
    let stage = ap (λ (k : Call). k.stage) c.call_of-c.ensures in
    subst (λ (k : Call). Settles c.args.s c.args.states.now c.args.lists.now c.args.calls.now c.args.queue.now c.args.t k) (sym c.call_of-c.ensures)
    (settles c.args.s tables c.args.t c.requires (λ e. omega (arith, stage, e)) (λ e. omega (arith, stage, e)) (λ e. omega (arith, stage, e)))
