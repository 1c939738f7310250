-- `script_lines::put_number` meets its contract: a number below ten is its one digit; of another the check finds the rest.
-- Assumes nothing.
use Rattle.std.proofs.Common.{refl, arith}
use Rattle.laws.specs.Digits.{digits-one}
use Rattle.script_lines.specs.Buffer.{length-one}
use Rattle.script_lines.proofs.put_number.Goals as goal

pub bounds-out-at : goal.bounds-out-at
bounds-out-at c = omega (arith, length-one c.args.n c.if-n-lt10.true, c.requires)

pub returns-then-n-lt10 : goal.returns-then-n-lt10
returns-then-n-lt10 c = rw (digits-one c.args.n c.if-n-lt10.true) (refl, refl)
