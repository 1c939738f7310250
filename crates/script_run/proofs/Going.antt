-- The run as it goes on: what the records behind an offset need, and that with their lines all lines are written.
-- Assumes nothing.
use Rattle.std.specs.Prelude.{Err, Some, None}
use mathlib.Core.Path.{◌≡◌, sym, ◌∙◌, ap}
use mathlib.Core.Bool.{false}
use mathlib.Core.List.{List}
use Prim.Native.Nat.{ℕ, ◌+◌, ◌-◌, ◌≤◌, ◌<◌}
use native.Mathlib.Omega.{arith}
use lib.ListN.{length}
use lib.Seq.{sets, length-sets}
use Rattle.laws.specs.Tests.{fails}
use Rattle.shape.specs.declared.Shape.{Shape}
use Rattle.rules.specs.declared.Refusal.TheVariants.{BadRecord}
use Rattle.rules.specs.declared.script.Record.{Record}
use Rattle.rules.specs.Tables.{State}
use Rattle.facts.specs.Lines.{Sound}
use Rattle.rules.specs.Steps.{Outcome, outcome}
use Rattle.rules.specs.Script.{tag_at, read_at}
use Rattle.rules.specs.Listing.{record_step, line}
use Rattle.script_lines.specs.Buffer.{LINE-MOST}
use Rattle.script_read.specs.Forms.{is_pool}
use Rattle.script_read.specs.Reads.{read_next, read-pool}
use Rattle.script_turn.specs.Sounds.{record-sound, record-goes-on}
use Rattle.script_run.specs.Listed.{Begun, Listed}
use Rattle.script_run.proofs.Written.{same_shape, listed-none, listed-bad, listed-record}
use Rattle.rules.specs.Answers.{Answered}

-- a line is stored, and takes no more than its room
abbrev pub Line : List ℕ → ℕ → ℕ → ℕ → Answered → ℕ → List ℕ → Type 0
Line out end n tag a next after =
    (next ≡ end + length (line n tag a)) × (after ≡ sets out end (line n tag a)) × (next ≤ end + LINE-MOST)

pub line_same :
    (out : List ℕ) (end n tag : ℕ) (a : Answered) {next : ℕ} {after : List ℕ} → Line out end n tag a next after →
    length after ≡ length out
line_same out end n tag a p = ap length p.1 ∙ length-sets out end (line n tag a)

-- the run from an offset and tables on has come to another offset and other tables
pub record Going (xs : List ℕ) (s : Shape) (from : ℕ) (S : State) (first : List ℕ) (start n at : ℕ) (T : State) (out : List ℕ) (end : ℕ) : Type 0 where
  pub began : Sound s S
  pub here : Begun xs n at s T out end
  pub rest :
      (after : List ℕ) (last : ℕ) → Listed xs n at s T out end after last → Listed xs 1 from s S first start after last
  pub same : length out ≡ length first

module _ {xs : List ℕ} {s : Shape} {from : ℕ} {S : State} {first : List ℕ} {start n at : ℕ} {T : State} {out : List ℕ} {end : ℕ} (g : Going xs s from S first start n at T out end) where
  here : Begun xs n at s T out end
  here = g.here

  -- the run ends at the script's end
  pub ends : length xs ≤ at → Listed xs 1 from s S first start out end
  ends h = g.rest out end (listed-none h (omega (arith, here)))

  module _ (h : at < length xs) where
    -- the run ends at a bad record
    pub ends-bad :
        {after : List ℕ} {last : ℕ} → read_at xs at ≡ None →
        Line out end n (tag_at xs at) (Err (BadRecord at)) last after → Listed xs 1 from s S first start after last
    ends-bad {after} {last} e p = g.rest after last (listed-bad h e (p.0, p.1) (omega (arith, here)))

    module _ {r : Record} {next : ℕ} (e : read_at xs at ≡ Some (r, next)) where
      -- any other is no shape's
      pub no-shape : is_pool r ≡ false
      no-shape = sym (fails (is_pool r) (λ p. omega (arith, read-pool xs at r next e p, here)))

      -- fewer bytes are left behind it
      pub falls : length xs - next < length xs - at
      falls = omega (arith, read_next xs at r next e)

      -- and there the run goes on
      pub goes_on :
          {a : Answered} {U : State} {middle : ℕ} {more : List ℕ} → outcome a U ≡ record_step s T r →
          Line out end n (tag_at xs at) a middle more → Going xs s from S first start (n + 1) next U more middle
      goes_on {a} o p =
          record {
            began = g.began;
            here =
                record {
                  short = here.short;
                  behind = omega arith;
                  counted = omega (arith, read_next xs at r next e, here.counted);
                  inside = (read_next xs at r next e).1;
                  sound = rw (ap (λ (x : Outcome). x.after) o) (record-sound here.sound r no-shape);
                  room = omega (arith, here.room);
                  long = omega (arith, line_same out end n (tag_at xs at) a p, here.long);
                };
            rest = λ after last l.
                g.rest after last
                (listed-record h e (record-goes-on here.sound r no-shape) o (p.0, p.1)
                (rw (same_shape s r no-shape) l));
            same = line_same out end n (tag_at xs at) a p ∙ g.same;
          }
