-- What cover answers on tables that are not refused.
-- Assumes nothing.
use Rattle.std.specs.Prelude.{Err, Result, cond, List, ℕ, ◌-◌, ltb}
use Rattle.shape.specs.declared.Shape.{Shape}
use Rattle.shape.specs.Blocks.{bytes}
use Rattle.rules.specs.declared.Refusal.TheVariants.{OffsetOutside}
use Rattle.rules.specs.declared.Covered.{Covered}
use Rattle.rules.specs.Questions.{cover_level, block_over}
use Rattle.rules.specs.declared.Refusal.{Refusal}

unfoldable pub cover_at : Shape → List ℕ → ℕ → Result Covered Refusal
cover_at s states x =
    cond (ltb x (bytes s)) (block_over s states x (cover_level s states x (s.levels - 1))) (Err OffsetOutside)
