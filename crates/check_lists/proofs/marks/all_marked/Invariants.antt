use Rattle.std.specs.Prelude.{◌≡◌}
use Rattle.std.specs.Slice.Iter.{chunks_rest, chunks_size}
use Rattle.check_lists.specs.Marks.{row}
use Rattle.check_lists.proofs.Marking.{Rows}
use Rattle.check_lists.proofs.marks.all_marked.Given as goal

abbrev pub invariant-loop-bit : goal.invariant-loop-bit
invariant-loop-bit l =
    Rows l.states l.marks (chunks_rest l.bit-iterator.iter) l.ok l.bit-iterator.count
    × (chunks_size l.bit-iterator.iter ≡ row)
