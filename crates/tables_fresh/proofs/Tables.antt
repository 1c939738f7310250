-- The fresh tables, store by store: rows filled, and the top blocks listed one by one in empty lists.
-- Assumes nothing.
use mathlib.Core.Path.{◌≡◌, refl, sym, ◌∙◌}
use mathlib.Core.Bool.{true}
use mathlib.Core.List.{List, [], ◌∷◌, ◌++◌}
use Prim.Native.Nat.{ℕ, zero, suc, ◌+◌, ◌≤◌, ◌<◌}
use native.Mathlib.Nat.{zero-add}
use native.Mathlib.Omega.{arith}
use lib.ListN.{length, get_or, drop, replicate, length-replicate}
use Rattle.std.proofs.lemmas.List.{drop-replicate}
use Rattle.laws.specs.Lists.{up_from}
use Rattle.laws.specs.Rows.{up_from-more, length-up_from}
use Rattle.shape.specs.declared.Shape.{Shape}
use Rattle.shape.specs.Limits.{allowed}
use Rattle.shape.specs.Blocks.{count, blocks}
use Rattle.shape.specs.Laws.{limits, count-top}
use Rattle.shape.specs.Sections.{level-inside}
use Rattle.rules.specs.Numbers.{FREE, NOEXIST}
use Rattle.rules.specs.Tables.{State, state, free_list, put_list, fresh}
use Rattle.facts.specs.Given.{LengthFacts}
use Rattle.facts.specs.Lists.{ListReady, length-put_list, length-put, free_list-put, put_list-put, put_list-same, ready-put}

zeros : (k i : ℕ) → ◌≡◌ {A = ℕ} (get_or (replicate k 0) i 0) 0
zeros zero i = refl
zeros (suc k) zero = refl
zeros (suc k) (suc i) = zeros k i

-- there are cells for the top blocks
pub tops-inside : (s : Shape) {m n : ℕ} → allowed s ≡ true → m ≡ blocks s → n ≡ m → s.tops ≤ n
tops-inside s shape whole e = omega (arith, level-inside s 0 (limits s shape).levels.0, count-top s)

-- the top blocks FREE, filled over all blocks NOEXIST
pub tops-free :
    (s : Shape) {m n : ℕ} {ys zs : List ℕ} → n ≡ blocks s → ys ≡ replicate n NOEXIST → m ≡ s.tops → zs ≡ replicate m FREE →
    zs ++ drop s.tops ys ≡ (fresh s).pool.states
unfolding fresh
tops-free s whole e tops f = rw (e, f, whole, tops, drop-replicate)

-- empty lists
abbrev pub empty : Shape → List ℕ
empty s = replicate (s.levels + blocks s) 0

module _ (s : Shape) (shape : allowed s ≡ true) where
  ready : ListReady s (empty s) 0
  ready =
      record {
        shape = shape;
        level = (limits s shape).levels.0;
        whole = length-replicate (s.levels + blocks s) 0;
        most = rw (zeros (s.levels + blocks s) 0) (omega arith);
        ended = λ i m b. zeros (s.levels + blocks s) _;
      }

  tops : (n : ℕ) → n ≤ s.tops → length (up_from 0 n) ≤ count s 0
  tops n h = rw (length-up_from, count-top) h

  pub listed-length : (xs : List ℕ) → length (put_list s (empty s) 0 xs) ≡ s.levels + blocks s
  listed-length xs = length-put_list s (empty s) 0 xs ∙ ready.whole

  pub none-listed : empty s ≡ put_list s (empty s) 0 (up_from 0 0)
  unfolding free_list up_from
  none-listed = sym (rw (zeros (s.levels + blocks s) 0) at (put_list-same s (empty s) 0 ready))

  pub listed-ready :
      (n : ℕ) → n < s.tops →
      ListReady s (put_list s (empty s) 0 (up_from 0 n)) 0 × (get_or (put_list s (empty s) 0 (up_from 0 n)) 0 0 < count s 0)
  listed-ready n h = (
    ready-put s (empty s) 0 _ ready (tops n (omega arith)),
    rw (length-put s (empty s) 0 ready.whole ready.level (up_from 0 n), length-up_from, count-top) h,
  )

  pub one-listed :
      (n : ℕ) → n < s.tops →
      put_list s (put_list s (empty s) 0 (up_from 0 n)) 0 (free_list s (put_list s (empty s) 0 (up_from 0 n)) 0 ++ (n ∷ []))
      ≡ put_list s (empty s) 0 (up_from 0 (n + 1))
  one-listed n h =
      rw (free_list-put s (empty s) 0 ready.whole ready.level (up_from 0 n) (tops n (omega arith)), next)
      (put_list-put s (empty s) 0 ready.whole ready.level _ _ (tops n (omega arith)) (tops (n + 1) (omega arith)))
    where
      next : up_from 0 n ++ (n ∷ []) ≡ up_from 0 (n + 1)
      next = sym (rw zero-add at (up_from-more 0 n))

-- tables that are fresh one by one
pub tables-fresh :
    (s : Shape) (T : State) {states owners lists calls queue : List ℕ} → LengthFacts s T → states ≡ (fresh s).pool.states →
    owners ≡ replicate (length T.pool.owners) 0 → lists ≡ (fresh s).pool.lists → calls ≡ replicate (length T.threads.calls) 0 →
    queue ≡ replicate (length T.threads.queue) 0 → state states owners lists calls queue (fresh s).threads.device ≡ fresh s
unfolding fresh
tables-fresh s T n states owners lists calls queue =
    rw (states, owners, lists, calls, queue, n.owners, n.calls, n.queue)
