-- `shape::time::Millis::wait` meets its contract: the arm taken says in which range the number is, and so which kind of wait it is.
-- Assumes nothing.
use Rattle.std.proofs.Common.{◌≡◌, rules, pos, negsuc, w32, arith}
use Rattle.std.proofs.lemmas.Int.{ints, to_z-of_z}
use Rattle.std.specs.Int.RustNames.{FitsSigned}
use Rattle.shape.specs.Time.{wait}
use Rattle.shape.proofs.Waits.{below, over, timed}
use Rattle.shape.proofs.time.Millis.wait.Goals as goal

pub returns-in-minus1 : goal.returns-in-minus1
unfolding wait
returns-in-minus1 c = let e : c.args.self.0 ≡ negsuc 0 = omega (arith, ints) in rw e

pub returns-in-0 : goal.returns-in-0
unfolding wait
returns-in-0 c = let e : c.args.self.0 ≡ pos 0 = omega (arith, ints) in rw e

pub returns-in-1-to-600000 : goal.returns-in-1-to-600000
returns-in-1-to-600000 c =
    let fits : FitsSigned w32 c.args.self.0 = search rules in
    rw (c.in_ticks-ticks.ensures.0, c.from.ensures, c.unsigned_abs.ensures.value, to_z-of_z w32 c.args.self.0 fits)
    (timed c.args.self.0 (omega (arith, ints)) (omega (arith, ints)))

pub returns-in_default : goal.returns-in_default
returns-in_default c = below _ (omega (arith, ints))

pub returns-in_default-2 : goal.returns-in_default-2
returns-in_default-2 c = over _ (omega (arith, ints))
