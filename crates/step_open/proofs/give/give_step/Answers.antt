-- `step_open::give::give_step` meets its contract: at each return the tests that led there say which outcome the rule has.
-- Assumes nothing.
use Rattle.std.proofs.Common.{Ok, sym, ◌∙◌, ap, arith}
use Rattle.rules.specs.declared.Answer.TheVariants.{Opened}
use Rattle.rules.specs.Steps.{outcome}
use Rattle.facts.specs.Verdict.{held-passed, id-inside}
use Rattle.step_open.proofs.Gives.{held}
use Rattle.step_open.proofs.give.give_step.Goals as goal

pub give_block-requires : goal.give_block-requires
give_block-requires c =
    let held = held-passed c.args.s c.args.states.now c.args.owners.now c.args.t c.args.id
    (sym c.held_by.ensures ∙ c.in_ok-held_by.was) in
    let inside = id-inside c.args.s c.args.id held.inside in
    record {
      mine = c.requires.mine;
      block =
          record {
            shape = c.requires.owned.shape;
            level = omega (arith, c.id_level.ensures, inside.0);
            block = rw (c.id_level.ensures, c.id_block.ensures) inside.1;
            whole = c.requires.owned.whole;
          };
      owned = c.requires.owned.owned;
    }

pub returns : goal.returns
returns c =
    λ lists queue d.
    held c.args.s c.args.states.now c.args.owners.now lists c.args.calls.now queue d c.args.t
    c.args.id c.call_of-c.ensures c.if-c-ne-CLOSED.false
    c.held_by.ensures c.in_ok-held_by.was c.id_level.ensures c.id_block.ensures
    (ap (outcome (Ok Opened)) (c.give_block.ensures lists queue d))
