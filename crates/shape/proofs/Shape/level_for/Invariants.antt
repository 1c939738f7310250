use mathlib.Core.Path.{◌≡◌}
use Prim.Native.Nat.{◌-◌, ◌≤◌}
use Rattle.shape.specs.Blocks.{level_from, level_for}
use Rattle.shape.proofs.Shape.level_for.Given as goal

abbrev pub invariant-loop-level : goal.invariant-loop-level
invariant-loop-level l = (1 ≤ l.level) × (level_for l.self l.request ≡ level_from l.self (l.level - 1) l.request)
