-- A dividing call reaches its grant.
-- Assumes nothing.
use Rattle.std.specs.Prelude.{◌≡◌, Bool, true, false, ℕ, zero, suc, ◌+◌, ◌*◌, ◌≤◌, ◌<◌, ltb}
use Rattle.std.proofs.Math.Path.{refl, ap}
use Rattle.std.proofs.Common.{sym, ◌∙◌, arith, ltb-true, ltb-false}
use Rattle.shape.specs.declared.Shape.{Shape}
use Rattle.shape.specs.Limits.{parts}
use Rattle.shape.specs.Blocks.{level_for}
use Rattle.rules.specs.declared.Call.{Call}
use Rattle.rules.specs.Tables.{State}
use Rattle.rules.specs.Steps.{split_step, grant_step}
use Rattle.rules.specs.Calls.{go_on}
use Rattle.facts.specs.Running.{Running, splits, grants}
use Rattle.proved_granted.specs.Until.{Ended, until, until-ended, until_open}
use Rattle.proved_granted.specs.Divides.{dividing, split_runs, grant-runs, Grant, Reaches}

-- what holds of tables with a block in hand, and holds of the first part after each split, holds when the block is granted;
-- the thread goes on once for each level between, and once more
module _ (s : Shape) (t size : ℕ) (P : State → ℕ → ℕ → Type 0)
    (next :
    (T : State) (l b : ℕ) → Running s T t (dividing size l b) → l < level_for s size → P T l b →
    P (split_step s T t (dividing size l b)).after (l + 1) (parts s * b)) where
  one_more :
      (n : ℕ) → Reaches s t size P next n → (T : State) (l b : ℕ) → Running s T t (dividing size l b) → P T l b → l ≤ level_for s size →
      level_for s size < l + suc n → Grant s t size (λ T b. P T (level_for s size) b) (until s t n (go_on s T t))
  one_more n more T l b g p h k = pick (ltb l (level_for s size)) refl
    where
      pick :
          (x : Bool) → ltb l (level_for s size) ≡ x →
          Grant s t size (λ T b. P T (level_for s size) b) (until s t n (go_on s T t))
      pick true e =
          let w = ltb-true l (level_for s size) e in
          rw (splits g refl w)
          (more (l + 1) (parts s * b) _ (split_runs s T t size l b g w) (next T l b g w p) (omega arith) (omega arith))
      pick false e =
          let w = ltb-false l (level_for s size) e in
          let q : l ≡ level_for s size = omega arith in
          rw (grants g refl w)
          (record {
            tables = T;
            block = b;
            runs = rw q at g;
            held = rw q at p;
            is =
                until-ended s t n _ (ap (λ (c : Call). c.stage) (grant-runs s T t size l b g w).own)
                ∙ ap (λ (m : ℕ). grant_step s T t (dividing size m b)) q;
          })

  reaches_more : (n : ℕ) → Reaches s t size P next n → Reaches s t size P next (suc n)
  reaches_more n more l b o g p h k = rw (until_open s t n o opened) (one_more n more o.after l b g p h k)
    where
      opened : Ended t o → ⊥
      opened e = omega (arith, sym (ap (λ (c : Call). c.stage) g.own) ∙ e)

  reaches-none : Reaches s t size P next 0
  reaches-none l b o g p h k = absurd (omega arith)

  pub divides-to-grant : (n : ℕ) → Reaches s t size P next n
  divides-to-grant zero = reaches-none
  divides-to-grant (suc n) = reaches_more n (divides-to-grant n)
