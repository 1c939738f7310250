use Rattle.std.proofs.Common.{◌≡◌, ◌-◌, ◌<◌}
use Rattle.rules.specs.Questions.{cover_level}
use Rattle.questions.proofs.cover.cover_level.Given as goal

abbrev pub invariant-loop-level : goal.invariant-loop-level
invariant-loop-level l =
    (0 < l.level) × (cover_level l.s l.states l.x (l.s.levels - 1) ≡ cover_level l.s l.states l.x (l.level - 1))
