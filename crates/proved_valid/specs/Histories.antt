-- Tables stay valid over any history: fresh tables are, and every public call leaves valid tables valid.
-- Assumes nothing.
use Rattle.std.specs.Prelude.{◌≡◌, true, List, [], ◌∷◌, ℕ, take}
use Rattle.shape.specs.declared.Shape.{Shape}
use Rattle.shape.specs.Limits.{allowed}
use Rattle.shape.specs.Laws.{limits}
use Rattle.shape.specs.Time.{wait, wait-most}
use Rattle.rules.specs.declared.Call.{Call}
use Rattle.rules.specs.Tables.{State, lengths, fresh}
use Rattle.rules.specs.Steps.{Outcome}
use Rattle.rules.specs.Refusals.{fitting}
use Rattle.rules.specs.Calls.{build}
use Rattle.facts.specs.Lines.{Sound}
use Rattle.history.specs.History.{Step, Build, step_on, run_steps}
use Rattle.facts.specs.Running.{Running}
use Rattle.history.specs.Walk.{EachGoOn, EachStep}
use Rattle.history.proofs.Walk.{each_step}
use Rattle.proved_valid.specs.Lines.{Facts, facts, sound-of}
use Rattle.proved_valid.specs.Asks.{ask-kept, switch_kept, tick-kept}
use Rattle.proved_valid.specs.Looks.{end_kept, find-kept, block-kept}
use Rattle.proved_valid.specs.Takes.{take-kept, again_kept}
use Rattle.proved_valid.specs.Owns.{grant-kept, give_kept}
use Rattle.proved_valid.specs.Splits.{split-kept}
use Rattle.proved_valid.specs.Merges.{merge-kept}
use Rattle.proved_valid.specs.Settles.{settle-kept}
use Rattle.proved_valid.specs.Fresh.{fresh_kept}

-- whichever way a go on ends
go-on-kept :
    {s : Shape} {T : State} {t : ℕ} {c : Call} → Running s T t c → EachGoOn (λ (o : Outcome). Facts s o.after) s T t c
go-on-kept g =
    record {
      ends = λ r e a. end_kept g a;
      finds = λ l a q. find-kept g a l q;
      blocks = λ a n d. block-kept g a n d;
      again = λ f. again_kept g f;
      takes = λ b bs f q. take-kept g f b bs q;
      splits = λ d h. split-kept g d h;
      grants = λ d h. grant-kept g d;
      settles = λ r n. settle-kept g r n;
      merges = λ r m. merge-kept g r m;
    }

-- and whichever way a step does
each-kept : {s : Shape} {T : State} → Sound s T → EachStep (λ x (o : Outcome). Facts s o.after) s T
each-kept {s} {T} k =
    record {
      stays = λ x r e u. facts k;
      builds = λ a. fresh_kept (limits s a);
      asks = λ t size ms g o h. ask-kept g o size (wait ms) h (wait-most ms);
      goes = λ t g. go-on-kept g;
      gives = λ t i g o p a w. give_kept g i o p a;
      switches = λ t h w. switch_kept s T t (facts k) h w;
      ticks = λ v. tick-kept s T (facts k);
      whole = facts k;
      not-whole = facts k;
    }

-- every public call leaves sound tables sound
pub steps-valid : (s : Shape) (T : State) (x : Step) → Sound s T → Sound s (step_on s T x).after
steps-valid s T x k = sound-of k.shape (each_step (λ x (o : Outcome). Facts s o.after) s T (each-kept k) x)

-- fresh tables are sound
pub fresh-valid : (s : Shape) → allowed s ≡ true → Sound s (fresh s)
fresh-valid s a = sound-of a (fresh_kept (limits s a))

-- so a build of tables with the right lengths leaves them sound, whatever they held
pub build-valid : (s : Shape) (T : State) → allowed s ≡ true → lengths s T ≡ true → Sound s (step_on s T Build).after
unfolding step_on build fitting
build-valid s T a l = rw (a, l) (fresh-valid s a)

-- a history leaves sound tables sound
pub runs-valid : (s : Shape) (xs : List Step) (T : State) → Sound s T → Sound s (run_steps s T xs)
unfolding run_steps
runs-valid s [] T k = k
runs-valid s (x ∷ xs) T k = runs-valid s xs (step_on s T x).after (steps-valid s T x k)

-- and every state of a history that begins with fresh tables is sound: the one after its first n steps
pub histories-valid :
    (s : Shape) (xs : List Step) (n : ℕ) → allowed s ≡ true → Sound s (run_steps s (fresh s) (take n xs))
histories-valid s xs n a = runs-valid s (take n xs) (fresh s) (fresh-valid s a)
