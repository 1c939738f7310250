-- The highest of a list's first cells is within a bound exactly where they all are.
-- Assumes nothing.
use mathlib.Core.Path.{◌≡◌, refl, sym, ◌∙◌}
use mathlib.Core.Bool.{Bool, true, false, ◌&&◌}
use mathlib.Core.List.{List}
use Prim.Native.Nat.{ℕ, ◌+◌, max}
use native.Mathlib.Nat.{le-max_left, le-max_right, max-le}
use native.Mathlib.Omega.{arith}
use lib.ListN.{get_or}
use lib.Dec.{leb}
use borrow.Author.Tests.{leb-true, leb-false, le-leb, lt-leb}
use Rattle.laws.specs.Tests.{every, every-none, every_more}

leb-max : (a b n : ℕ) → leb (max a b) n ≡ (leb a n && leb b n)
leb-max a b n = go (leb a n) (leb b n) refl refl
  where
    go : (p q : Bool) → leb a n ≡ p → leb b n ≡ q → leb (max a b) n ≡ (p && q)
    go true true e f = le-leb (max a b) n (max-le (leb-true a n e) (leb-true b n f))
    go true false e f = lt-leb (max a b) n (omega (arith, leb-false b n f, le-max_right a b))
    go false q e f = lt-leb (max a b) n (omega (arith, leb-false a n e, le-max_left a b))

pub record Highest (cells : List ℕ) (n highest : ℕ) : Type 0 where
  pub bounds : (bound : ℕ) → leb highest bound ≡ every n (λ k. leb (get_or cells k 0) bound)

pub highest-none : (cells : List ℕ) → Highest cells 0 0
highest-none cells = record { bounds = λ bound. le-leb 0 bound (omega arith) ∙ sym (every-none _) }

pub highest-more :
    (cells : List ℕ) (n highest next : ℕ) → Highest cells n highest → next ≡ max highest (get_or cells n 0) →
    Highest cells (n + 1) next
highest-more cells n highest next h e = record { bounds = λ bound. rw (e, leb-max, every_more, h.bounds bound) }
