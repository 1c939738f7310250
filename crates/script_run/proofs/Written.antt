-- The lines of a script, record by record: at the script's end, at a bad record, and at a record and those behind it.
-- Assumes nothing.
use Rattle.std.specs.Prelude.{Err, Some, None}
use mathlib.Core.Path.{◌≡◌, refl, sym, ◌∙◌, ap}
use mathlib.Core.Bool.{true, false, true≢false}
use mathlib.Core.List.{List, [], ◌++◌, append-nil}
use Prim.Native.Nat.{ℕ, zero, suc, ◌+◌, ◌-◌, ◌≤◌, ◌<◌}
use native.Mathlib.Omega.{arith}
use lib.ListN.{length}
use borrow.Author.Tests.{le-leb, lt-leb}
use Rattle.laws.specs.Sets.{Put, put-behind}
use Rattle.shape.specs.declared.Shape.{Shape}
use Rattle.rules.specs.declared.Refusal.TheVariants.{BadRecord}
use Rattle.rules.specs.declared.script.Record.{Record}
use Rattle.rules.specs.declared.script.Record.TheVariants.{Pool, Ask, ShortAsk, GoOn, Give, Switch, Tick, Whole}
use Rattle.rules.specs.Tables.{State}
use Rattle.rules.specs.Steps.{Outcome, outcome}
use Rattle.rules.specs.Script.{tag_at, read_at}
use Rattle.rules.specs.Listing.{record_step, shape_after, line, stops, read_lines, lines}
use Rattle.script_read.specs.Forms.{is_pool}
use Rattle.script_read.specs.Reads.{read_next}
use Rattle.script_turn.specs.GoesOn.{GoesOn}
use Rattle.script_run.specs.Listed.{LISTING-MOST, Listed}
use Rattle.rules.specs.Answers.{Answered}

-- no record but a shape's changes the shape
pub same_shape : (s : Shape) (r : Record) → is_pool r ≡ false → shape_after s r ≡ s
same_shape s (Pool q) e = absurd (true≢false e)
same_shape s (Ask t size m) e = refl
same_shape s (ShortAsk t size) e = refl
same_shape s (GoOn t) e = refl
same_shape s (Give t i) e = refl
same_shape s (Switch t) e = refl
same_shape s Tick e = refl
same_shape s Whole e = refl

module _ (xs : List ℕ) (n at : ℕ) (s : Shape) (T : State) where
  -- behind the last record there are no lines
  lines_none : (most : ℕ) → length xs ≤ at → lines most xs n at s T ≡ []
  unfolding lines
  lines_none zero h = refl
  lines_none (suc most) h = rw (le-leb (length xs) at h)

  -- at a bad record there is one
  lines-bad :
      (most : ℕ) → at < length xs → read_at xs at ≡ None →
      lines (suc most) xs n at s T ≡ line n (tag_at xs at) (Err (BadRecord at))
  unfolding lines read_lines
  lines-bad most h e = rw (lt-leb (length xs) at h, e)

  -- at a record that stops the run too
  lines-stop :
      (most : ℕ) {r : Record} {next : ℕ} → at < length xs → read_at xs at ≡ Some (r, next) →
      stops (record_step s T r).answer ≡ true →
      lines (suc most) xs n at s T ≡ line n (tag_at xs at) (record_step s T r).answer
  unfolding lines read_lines
  lines-stop most h e g = rw (lt-leb (length xs) at h, e, g, append-nil)

  -- any other record has its line before those of the records behind it
  lines-record :
      (most : ℕ) {r : Record} {next : ℕ} → at < length xs → read_at xs at ≡ Some (r, next) →
      GoesOn (record_step s T r) →
      lines (suc most) xs n at s T
      ≡ line n (tag_at xs at) (record_step s T r).answer
      ++ lines most xs (n + 1) next (shape_after s r) (record_step s T r).after
  unfolding lines read_lines
  lines-record most h e g = rw (lt-leb (length xs) at h, e, g.on)

-- where a script has more records, some may be read
one_more : (most n at : ℕ) → at < n → n ≤ at + most → most ≡ suc (most - 1)
one_more most n at h k = omega arith

module _ {xs : List ℕ} {n at : ℕ} {s : Shape} {T : State} {out : List ℕ} {end : ℕ} where
  pub listed-none : length xs ≤ at → end ≤ LISTING-MOST → Listed xs n at s T out end out end
  listed-none h k = record { put = λ most m. rw (lines_none xs n at s T most h) (omega arith, refl); within = k }

  module _ (h : at < length xs) where
    pub listed-bad :
        {after : List ℕ} {last : ℕ} → read_at xs at ≡ None →
        Put out end (line n (tag_at xs at) (Err (BadRecord at))) last after → last ≤ LISTING-MOST →
        Listed xs n at s T out end after last
    listed-bad e p k =
        record {
          put = λ most m. rw (one_more most (length xs) at h m, lines-bad xs n at s T (most - 1) h e) p;
          within = k;
        }

    pub listed-stop :
        {r : Record} {next : ℕ} {a : Answered} {U : State} {after : List ℕ} {last : ℕ} → read_at xs at ≡ Some (r, next) →
        outcome a U ≡ record_step s T r → stops a ≡ true → Put out end (line n (tag_at xs at) a) last after →
        last ≤ LISTING-MOST → Listed xs n at s T out end after last
    listed-stop {a = a} {after = after} {last} e o g p k =
        record {
          put = λ most m.
              rw (
                one_more most (length xs) at h m,
                lines-stop xs n at s T (most - 1) h e (ap (λ (x : Outcome). stops x.answer) (sym o) ∙ g),
                ← o,
              )
              p;
          within = k;
        }

    pub listed-record :
        {r : Record} {next : ℕ} {a : Answered} {U : State} {more after : List ℕ} {middle last : ℕ} →
        read_at xs at ≡ Some (r, next) → GoesOn (record_step s T r) → outcome a U ≡ record_step s T r →
        Put out end (line n (tag_at xs at) a) middle more →
        Listed xs (n + 1) next (shape_after s r) U more middle after last → Listed xs n at s T out end after last
    listed-record {r} {next} {a} {U} {more} {after} {middle} {last} e g o p rest =
        record { put = λ most m. rw (one_more most (length xs) at h m) (whole (most - 1) (omega arith)); within = rest.within }
      where
        whole : (most : ℕ) → length xs ≤ at + suc most → Put out end (lines (suc most) xs n at s T) last after
        whole most m =
            rw (lines-record xs n at s T most h e g, ← o)
            (put-behind out end (line n (tag_at xs at) a) _ p (rest.put most (omega (arith, read_next xs at r next e))))
