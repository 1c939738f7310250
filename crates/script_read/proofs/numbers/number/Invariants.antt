use Rattle.script_read.proofs.Bytes.{Held}
use Rattle.script_read.proofs.numbers.number.Given as goal

abbrev pub invariant-loop-byte : goal.invariant-loop-byte
invariant-loop-byte l = Held l.bytes l.byte-iterator.iter.rest.now l.sum
