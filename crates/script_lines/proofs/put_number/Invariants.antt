use Rattle.script_lines.proofs.Filling.{Filled}
use Rattle.script_lines.proofs.put_number.Given as goal

abbrev pub invariant-loop-place : goal.invariant-loop-place
invariant-loop-place l = Filled l.initial.out l.at l.n l.out l.rest l.place
