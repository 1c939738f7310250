-- The first record of a script: bad, or a shape that is refused, or one that is built and the other records run.
-- Assumes nothing.
use Rattle.std.specs.Prelude.{Ok, Err, None}
use mathlib.Core.Path.{◌≡◌, refl, sym, ap, subst}
use mathlib.Core.Bool.{true, false, false≢true}
use mathlib.Core.List.{List}
use Prim.Native.Nat.{ℕ}
use native.Mathlib.Omega.{arith}
use Rattle.shape.specs.declared.Shape.{Shape}
use Rattle.shape.specs.Limits.{allowed}
use Rattle.rules.specs.declared.Refusal.TheVariants.{ShapeNotAllowed, BadRecord}
use Rattle.rules.specs.declared.Answer.TheVariants.{Built}
use Rattle.rules.specs.declared.script.Record.{Record}
use Rattle.rules.specs.declared.script.Record.TheVariants.{Pool, Ask, ShortAsk, GoOn, Give, Switch, Tick, Whole}
use Rattle.rules.specs.Tables.{State, fresh}
use Rattle.rules.specs.Steps.{Outcome, outcome}
use Rattle.rules.specs.Refusals.{fitting}
use Rattle.rules.specs.Calls.{build}
use Rattle.rules.specs.Script.{tag_at, read_at}
use Rattle.rules.specs.Listing.{record_step, stops, no_shape}
use Rattle.proved_valid.specs.Histories.{fresh-valid}
use Rattle.script_read.specs.Forms.{is_pool}
use Rattle.script_read.specs.Reads.{read_next}
use Rattle.script_turn.specs.GoesOn.{GoesOn}
use Rattle.script_run.specs.Listed.{Begun, Listed, AllListed, Titled, Headed}
use Rattle.script_run.proofs.Written.{listed-bad, listed-stop, listed-record}
use Rattle.script_run.proofs.Going.{Line, line_same}

-- a shape's record builds, or refuses the shape
abbrev first : Shape → Outcome
first s = record_step no_shape (fresh no_shape) (Pool s)

refused : (s : Shape) → allowed s ≡ false → outcome (Err ShapeNotAllowed) (fresh s) ≡ first s
unfolding record_step build fitting
refused s a = rw a

built : (s : Shape) → allowed s ≡ true → outcome (Ok Built) (fresh s) ≡ first s
unfolding record_step build fitting
built s a = rw (a, (fresh-valid s a).lengths)

built-goes-on : (s : Shape) → allowed s ≡ true → GoesOn (first s)
built-goes-on s a = record { on = ap (λ (x : Outcome). stops x.answer) (sym (built s a)) }

module _ {xs out : List ℕ} {end : ℕ} (t : Titled xs out end) where
  pub listed-first :
      {after : List ℕ} {last : ℕ} → read_at xs 0 ≡ None → Line out end 0 (tag_at xs 0) (Err (BadRecord 0)) last after →
      AllListed xs out end after last
  listed-first e p = listed-bad t.some e (p.0, p.1) (omega arith)

module _ {xs : List ℕ} {next : ℕ} {s : Shape} {out : List ℕ} {end : ℕ} (g : Headed xs next s out end) where
  pub listed-refused :
      {after : List ℕ} {last : ℕ} → allowed s ≡ false → Line out end 0 (tag_at xs 0) (Err ShapeNotAllowed) last after →
      AllListed xs out end after last
  listed-refused a p = listed-stop g.titled.some g.first (refused s a) refl (p.0, p.1) (omega (arith, g.titled.room))

  module _ {T : State} {middle : ℕ} {more : List ℕ} (e : T ≡ fresh s) (a : allowed s ≡ true) (p : Line out end 0 (tag_at xs 0) (Ok Built) middle more) where
    pub begins : Begun xs 1 next s T more middle
    begins =
        record {
          short = g.titled.short;
          behind = omega arith;
          counted = omega (arith, read_next xs 0 (Pool s) next g.first);
          inside = (read_next xs 0 (Pool s) next g.first).1;
          sound = rw e (fresh-valid s a);
          room = omega (arith, g.titled.room);
          long = omega (arith, line_same out end 0 (tag_at xs 0) (Ok Built) p, g.titled.long);
        }

    pub listed-built :
        {after : List ℕ} {last : ℕ} → Listed xs 1 next s T more middle after last → AllListed xs out end after last
    listed-built {after} {last} l =
        listed-record g.titled.some g.first (built-goes-on s a) (built s a) (p.0, p.1)
        (subst (λ (U : State). Listed xs 1 next s U more middle after last) e l)

-- a record that is a shape's is not found to be another
pub only-pool : (r : Record) → is_pool r ≡ true → ((q : Shape) → r ≡ Pool q → ⊥) → ⊥
only-pool (Pool q) e h = h q refl
only-pool (Ask t size m) e h = false≢true e
only-pool (ShortAsk t size) e h = false≢true e
only-pool (GoOn t) e h = false≢true e
only-pool (Give t i) e h = false≢true e
only-pool (Switch t) e h = false≢true e
only-pool Tick e h = false≢true e
only-pool Whole e h = false≢true e
