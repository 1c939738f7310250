-- `check_tables::tables_valid` meets its contract: the parts that are tested are those of `valid`, and each is tested where all before it passed.
-- Assumes nothing.
use Rattle.std.proofs.Common.{◌≡◌, true, refl, sym, ◌∙◌, ◌&&◌}
use Rattle.check_hands.specs.Hands.{kept-inside}
use Rattle.rules.specs.Tables.{state}
use Rattle.rules.specs.Valid.{calls_kept}
use Rattle.check_tables.proofs.Parts.{tree, lists, calls, hands, in-parts, tested, untested, passes}
use Rattle.check_tables.proofs.tables_valid.Goals as goal
use Rattle.check_tables.proofs.tables_valid.Goals.{Joined-calls_valid, then-tree_valid, else-tree_valid, then-lists_valid, else-lists_valid, then-calls_valid, else-calls_valid}

pub hands_valid-requires : goal.hands_valid-requires
hands_valid-requires c =
    let kept : calls_kept c.args.s c.args.d.clock c.args.calls.now ≡ true =
    elim c.if-lists_valid.branch [
      | then-lists_valid w ↦ sym w.calls_valid.ensures ∙ sym w.value-is ∙ c.if-calls_valid.true
      | else-lists_valid w ↦ passes w.value-is w.if-lists_valid.false c.if-calls_valid.true
    ] in
    (c.requires.0, c.requires.1.states, c.requires.1.calls, kept-inside c.args.s c.args.d.clock c.args.calls.now kept)

-- what the first four tests give
four :
    (c : Joined-calls_valid) →
    let T = state c.args.states.now c.args.owners.now c.args.lists.now c.args.calls.now c.args.queue.now c.args.d in
    c.if-calls_valid.value ≡ (tree c.args.s T && lists c.args.s T && calls c.args.s T && hands c.args.s T)
four c =
    let T = state c.args.states.now c.args.owners.now c.args.lists.now c.args.calls.now c.args.queue.now c.args.d in
    let two : c.if-tree_valid.value ≡ (tree c.args.s T && lists c.args.s T) =
    elim c.if-tree_valid.branch [
      | then-tree_valid w ↦ tested w.value-is w.if-tree_valid.true c.tree_valid.ensures w.lists_valid.ensures
      | else-tree_valid w ↦ untested _ w.value-is w.if-tree_valid.false c.tree_valid.ensures
    ] in
    let three : c.if-lists_valid.value ≡ (tree c.args.s T && lists c.args.s T && calls c.args.s T) =
    elim c.if-lists_valid.branch [
      | then-lists_valid w ↦ tested w.value-is w.if-lists_valid.true two w.calls_valid.ensures
      | else-lists_valid w ↦ untested _ w.value-is w.if-lists_valid.false two
    ] in
    elim c.if-calls_valid.branch [
      | then-calls_valid w ↦ tested w.value-is w.if-calls_valid.true three w.hands_valid.ensures
      | else-calls_valid w ↦ untested _ w.value-is w.if-calls_valid.false three
    ]

pub returns-then-hands_valid : goal.returns-then-hands_valid
returns-then-hands_valid c =
    tested refl c.if-hands_valid.true (four (goal.at.returns-then-hands_valid c).Joined-calls_valid) c.queue_valid.ensures
    ∙ sym (in-parts c.args.s (state c.args.states.now c.args.owners.now c.args.lists.now c.args.calls.now c.args.queue.now c.args.d))

pub returns-else-hands_valid : goal.returns-else-hands_valid
returns-else-hands_valid c =
    untested _ refl c.if-hands_valid.false (four (goal.at.returns-else-hands_valid c).Joined-calls_valid)
    ∙ sym (in-parts c.args.s (state c.args.states.now c.args.owners.now c.args.lists.now c.args.calls.now c.args.queue.now c.args.d))
