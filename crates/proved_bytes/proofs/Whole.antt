-- Demand 2: the pool is called whole exactly when all its bytes are free and no thread has a call open.
-- Assumes nothing.
use Rattle.std.specs.Prelude.{Ok, Err, ◌≡◌, refl, false, Bool, cond, ◌↔◌, ℕ, ◌<◌}
use Rattle.std.proofs.Common.{◌∙◌, arith}
use Rattle.std.proofs.Math.Bool.{true}
use Rattle.std.proofs.Math.Dec.{eqb}
use borrow.Author.Tests.{eqb-true, eq-eqb}
use Rattle.laws.specs.Tests.{every, every-at, every_of, both, both_of}
use Rattle.shape.specs.declared.Shape.{Shape}
use Rattle.shape.specs.Limits.{allowed}
use Rattle.shape.specs.Blocks.{size, bytes}
use Rattle.shape.specs.Laws.{Limits, limits, count-top, size_top}
use Rattle.rules.specs.Numbers.{FREE, CLOSED}
use Rattle.rules.specs.declared.Refusal.{Refusal}
use Rattle.rules.specs.declared.Answer.TheVariants as answers
use Rattle.rules.specs.Refusals.{through}
use Rattle.facts.specs.Lines.{Sound}
use Rattle.facts.specs.Verdict.{by-verdict, passes}
use Rattle.rules.specs.Tables.{State, state_at, call_of}
use Rattle.rules.specs.Valid.{valid}
use Rattle.facts.specs.Lines.{valid-facts}
use Rattle.rules.specs.Questions.{is_whole, whole}
use Rattle.proved_bytes.specs.Runs.{Free}
use Rattle.proved_bytes.proofs.Room.{all-free}
use Rattle.proved_bytes.specs.Tables.{state_in, state-inside, state-known, sizes_of, tree_of}
use Rattle.proved_bytes.specs.Bytes.{FreeByte, free-tree, tree_free}
use Rattle.proved_bytes.specs.Whole.{Whole}
use Rattle.rules.specs.Answers.{Answered}

module _ (s : Shape) (T : State) (h : allowed s ≡ true) (v : valid s T ≡ true) where
  -- all bytes are free where every top block is FREE, and only there
  tops-free :
      ((y : ℕ) → y < bytes s → FreeByte s T.pool.states y) ↔ ((b : ℕ) → b < s.tops → state_at s T.pool.states 0 b ≡ FREE)
  tops-free = (
    λ f b k. (state-known s T.pool.states 0 b (omega arith) (trees.0 (λ y q. tree_free s T.pool.states l y q (f y q)) b k)).1,
    λ f y k.
        free-tree s T.pool.states l y
        (trees.1 (λ b q. state-inside s T.pool.states 0 b (rw (count-top s) q) ∙ f b q) y k),
  )
    where
      l : Limits s
      l = limits s h

      trees :
          ((y : ℕ) → y < bytes s → Free s.levels (size s) (state_in s T.pool.states) y)
          ↔ ((b : ℕ) → b < s.tops → state_in s T.pool.states 0 b ≡ FREE)
      trees = rw (size_top s) at (all-free (tree_of s T (valid-facts s T v)) (sizes_of s l) l.levels.0)

  pub whole-bytes : (is_whole s T ≡ true) ↔ Whole s T
  unfolding is_whole
  whole-bytes = (
    λ e.
        record {
          free = tops-free.1 (λ b k. eqb-true _ _ (every-at s.tops _ (tests e).0 b k));
          closed = λ t k. eqb-true _ _ (every-at s.threads _ (tests e).1 t k);
        },
    λ w.
        both_of _ _
        (every_of s.tops _ (λ b k. eq-eqb _ _ (tops-free.0 w.free b k)))
        (every_of s.threads _ (λ t k. eq-eqb _ _ (w.closed t k))),
  )
    where
      tests :
          is_whole s T ≡ true →
          (every s.tops (λ b. eqb (state_at s T.pool.states 0 b) FREE) ≡ true)
          × (every s.threads (λ t. eqb (call_of T.threads.calls t).stage CLOSED) ≡ true)
      tests e = both _ _ e

-- a refusal is no answer that all is whole, nor is the other answer
refusal-apart : (r : Refusal) → ◌≡◌ {A = Answered} (Err r) (Ok answers.Whole) → ⊥
refusal-apart r e = let z : ◌≡◌ {A = ℕ} 0 1 = cc in omega arith

answer-apart : ◌≡◌ {A = Answered} (Ok answers.NotWhole) (Ok answers.Whole) → ⊥
answer-apart e = let z : ◌≡◌ {A = ℕ} 0 1 = cc in omega arith

-- demand 2, of the public call: for all shapes and tables the answer is that the pool is whole exactly if the tables are sound, all bytes
-- are free and no thread has a call open
pub whole-answer : (s : Shape) (T : State) → (whole s T ≡ Ok answers.Whole) ↔ (Sound s T × Whole s T)
unfolding whole
whole-answer s T = (
  by-verdict (λ v. through Err v (told (is_whole s T)) ≡ Ok answers.Whole → Sound s T × Whole s T)
      (λ _ e. absurd (refusal-apart _ e))
      (λ _ e. absurd (refusal-apart _ e))
      (λ _ e. absurd (refusal-apart _ e))
      (λ g e. (g, (whole-bytes s T g.shape g.valid).0 (said (is_whole s T) e))),
  λ (g, w). rw (passes g, (whole-bytes s T g.shape g.valid).1 w),
)
  where
    told : Bool → Answered
    told b = cond b (Ok answers.Whole) (Ok answers.NotWhole)

    said : (b : Bool) → told b ≡ Ok answers.Whole → b ≡ true
    said true e = refl
    said false e = absurd (answer-apart e)

-- the accident, of the public call: with a call open at any stage the pool is never called whole, whatever the tables
pub open-call-never-whole :
    (s : Shape) (T : State) (t : ℕ) → t < s.threads → ((call_of T.threads.calls t).stage ≡ CLOSED → ⊥) →
    whole s T ≡ Ok answers.Whole → ⊥
open-call-never-whole s T t h n e = n (((whole-answer s T).0 e).1.closed t h)
