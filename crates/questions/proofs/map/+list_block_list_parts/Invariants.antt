-- A block calls for its parts one level below it, and parts for each block at their own level, so parts' measure lies between: twice the depth
-- for a block, and one more for parts. Each run of ids stands behind those before it.
use Rattle.std.proofs.Common.{◌+◌, ◌*◌}
use Rattle.rules.specs.Questions.{listed, map_block}
use Rattle.questions.specs.Listing.{level_above, Listed}
use Rattle.questions.proofs.map.+list_block_list_parts.Given as goal

abbrev pub decreases-list_block : goal.decreases-list_block
decreases-list_block l = 2 * l.depth

abbrev pub decreases-list_parts : goal.decreases-list_parts
decreases-list_parts l = 2 * l.depth + 1

abbrev pub invariant-list_parts-loop-i : goal.invariant-list_parts-loop-i
invariant-list_parts-loop-i l =
    Listed l.fn.row l.at (listed (map_block l.s l.states l.depth (level_above l.s l.depth)) l.block l.i) l.next l.row
