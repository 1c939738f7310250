-- Fresh tables are kept.
-- Assumes nothing.
use Rattle.std.specs.Prelude.{◌≡◌, Bool, ℕ, ◌+◌, ◌*◌, ◌-◌, ◌≤◌, ◌<◌, length, replicate}
use Rattle.std.proofs.Math.Path.{refl, ap}
use Rattle.std.proofs.Common.{sym, ◌∙◌, inr, arith, length-append, get_or-append-add}
use Rattle.std.proofs.Math.Bool.{true, false, not}
use mathlib.Core.List.{List, [], ◌++◌}
use Rattle.std.proofs.Math.Decide.{dec_lt}
use Rattle.std.proofs.Math.ListN.{get_or, length-replicate, get_or-append}
use Rattle.std.proofs.lemmas.List.{get_or-replicate}
use Rattle.std.proofs.Math.Dec.{leb, eqb}
use borrow.Author.Tests.{le-leb, le-ltb}
use Rattle.laws.specs.Tests.{bit, every_of, every-not, both_of}
use Rattle.laws.specs.Lists.{up_from}
use Rattle.laws.specs.Times.{times_none}
use Rattle.shape.specs.declared.Shape.{Shape}
use Rattle.shape.specs.Limits.{parts}
use Rattle.shape.specs.Blocks.{count, above, place, blocks}
use Rattle.shape.specs.Laws.{Limits, parts-pos, count-top, above-none, above-next, above-up, place_inside}
use Rattle.shape.specs.Sections.{level-inside, part-inside}
use Rattle.rules.specs.Numbers.{ALLOCATED, FREE, DIVIDED, NOEXIST, FREEING, ALLOCATING, CELLS}
use Rattle.rules.specs.Tables.{state_at, section, free_list, put_list, queue_of, call_of, fresh}
use Rattle.rules.specs.Valid.{states_known, owners_known, tops_exist, parts_exist, deepest_whole, buddies_merged, list_ends, calls_kept, in_hand, one_to_one, queue_ends, waiters_queued, running_ready, dividing, releasing}
use Rattle.rules.specs.Steps.{closed}
use Rattle.proved_valid.specs.Lines.{Facts}
use Rattle.laws.specs.Changes.{tally-fails, get_or-zeros, times-among, times-outside}
use Rattle.proved_valid.specs.CallLines.{closed-kept}
use Rattle.proved_valid.specs.FreeLists.{Lists, Listing, listed_of, listing-put}
use Rattle.proved_valid.specs.QueueKept.{waiters-of}
use Rattle.rules.specs.declared.Call.{Call}

-- the states of fresh tables
abbrev new : Shape → List ℕ
new s = replicate s.tops FREE ++ replicate (blocks s - s.tops) NOEXIST

module _ {s : Shape} (m : Limits s) where
  -- the top blocks stand first
  above-one : above s 1 ≡ s.tops
  above-one = omega (arith, above-next s 0, above-none s, count-top s)

  enough : s.tops ≤ blocks s
  enough = omega (arith, level-inside s 0 m.levels.0, above-none s, count-top s)

  new-long : length (new s) ≡ blocks s
  new-long = simp (length-append, length-replicate) (omega (arith, enough))

  top-free : (k : ℕ) → k < s.tops → get_or (new s) k 0 ≡ FREE
  top-free k h =
      get_or-append (replicate s.tops FREE) _ 0 k (rw (length-replicate s.tops FREE) h)
      ∙ get_or-replicate s.tops k FREE 0 h

  rest-none : (k : ℕ) → s.tops ≤ k → k < blocks s → get_or (new s) k 0 ≡ NOEXIST
  rest-none k h i =
      ap (λ (n : ℕ). get_or (new s) n 0) (sym at)
      ∙ get_or-append-add (replicate s.tops FREE) (replicate (blocks s - s.tops) NOEXIST) (k - s.tops) 0
      ∙ get_or-replicate (blocks s - s.tops) (k - s.tops) NOEXIST 0 (omega arith)
    where
      at : length (replicate s.tops FREE) + (k - s.tops) ≡ k
      at = omega (arith, length-replicate s.tops FREE)

  -- a test that holds of both holds of every state
  new-test : (τ : ℕ → Bool) (x : Bool) → τ FREE ≡ x → τ NOEXIST ≡ x → (k : ℕ) → k < blocks s → τ (get_or (new s) k 0) ≡ x
  new-test τ x e f k h = go (dec_lt k s.tops)
    where
      go : Dec (k < s.tops) → τ (get_or (new s) k 0) ≡ x
      go (yes i) = ap τ (top-free k i) ∙ e
      go (no i) = ap τ (rest-none k (omega arith) h) ∙ f

  -- below the top no block exists
  below_none : (l b : ℕ) → 0 < l → l < s.levels → b < count s l → state_at s (new s) l b ≡ NOEXIST
  below_none l b h i k =
      rest-none (place s l b) (omega (arith, above-one, above-up s 1 l h)) (place_inside s l b i k)

  new-known : states_known s (new s) ≡ true
  unfolding states_known
  new-known = every_of (blocks s) _ (λ k h. new-test (λ x. leb x 5) true refl refl k h)

  new-tops : tops_exist s (new s) ≡ true
  unfolding tops_exist
  new-tops =
      every_of s.tops _ (λ b h.
      ap (λ (x : ℕ). not (eqb x NOEXIST)) (ap (λ (n : ℕ). get_or (new s) (n + b) 0) (above-none s) ∙ top-free (0 + b) (omega arith)))

  new-whole : (l b : ℕ) → l < s.levels → b < count s l → eqb (state_at s (new s) l b) DIVIDED ≡ false
  new-whole l b h k = new-test (λ x. eqb x DIVIDED) false refl refl (place s l b) (place_inside s l b h k)

  new-part :
      (l b j : ℕ) → l < s.levels - 1 → b < count s l → j < parts s → state_at s (new s) (l + 1) (parts s * b + j) ≡ NOEXIST
  new-part l b j i k d =
      below_none (l + 1) (parts s * b + j) (omega arith) (omega arith) (part-inside s l b j k d)

  new-parts : parts_exist s (new s) ≡ true
  unfolding parts_exist
  new-parts =
      every_of (s.levels - 1) _ (λ l i.
      every_of (count s l) _ (λ b k.
      every_of (parts s) _ (λ j d. rw (new-part l b j i k d, new-whole l b (omega arith) k))))

  new-deepest : deepest_whole s (new s) ≡ true
  unfolding deepest_whole
  new-deepest =
      every_of (count s (s.levels - 1)) _ (λ b h. ap not (new-whole (s.levels - 1) b (omega (arith, m.levels.0)) h))

  new-merged : buddies_merged s (new s) ≡ true
  unfolding buddies_merged
  new-merged =
      every_of (s.levels - 1) _ (λ l i.
      every_of (count s l) _ (λ b k.
      ap not
      (every-not (parts s) _ 0 (parts-pos s) (ap (λ (x : ℕ). eqb x FREE) (new-part l b 0 i k (parts-pos s))))))

  new-owners : owners_known s (new s) (replicate (blocks s) 0) ≡ true
  unfolding owners_known
  new-owners =
      every_of (blocks s) _ (λ k h.
      rw (new-test (λ x. eqb x ALLOCATED) false refl refl k h, get_or-zeros (blocks s) k, le-leb 0 s.threads (omega arith)))

  -- the top blocks are listed, and no other
  no-lists : Listing s [] (replicate (s.levels + blocks s) 0)
  unfolding list_ends free_list
  no-lists =
      record {
        long = length-replicate (s.levels + blocks s) 0;
        ends =
            every_of s.levels _ (λ l h.
            rw (get_or-zeros (s.levels + blocks s) l)
            (both_of _ _ (le-leb 0 (count s l) (omega arith))
            (every_of (count s l) _ (λ i k.
            rw (le-ltb i 0 (omega arith), get_or-zeros (s.levels + blocks s) (section s l + i))))));
        listed =
            listed_of s [] (replicate (s.levels + blocks s) 0) (λ l h.
            rw (get_or-zeros (s.levels + blocks s) l) (record { each = λ b k. times_none b; others = λ b k. times_none b }));
      }

  tops-listed : Lists s (new s) 0 (up_from 0 s.tops)
  tops-listed =
      record {
        each = λ b h.
            times-among b 0 s.tops (omega arith) (omega (arith, count-top s))
            ∙ sym (ap (λ (x : ℕ). bit (eqb x FREE)) (top-free (place s 0 b) (omega (arith, above-none s, count-top s))));
        others = λ b h. times-outside b 0 s.tops (inr (omega (arith, count-top s)));
      }

  new-lists : Listing s (new s) (put_list s (replicate (s.levels + blocks s) 0) 0 (up_from 0 s.tops))
  new-lists =
      listing-put no-lists m.levels.0 tops-listed
      (λ l b d i h. ap (λ (x : ℕ). eqb x FREE) (below_none l b (omega arith) i h))

  -- no call is open
  no_call : (t : ℕ) → call_of (replicate (CELLS * s.threads) 0) t ≡ closed
  unfolding call_of
  no_call t = simp get_or-zeros

  new-calls : calls_kept s 0 (replicate (CELLS * s.threads) 0) ≡ true
  unfolding calls_kept
  new-calls = every_of s.threads _ (λ t h. rw (no_call t) (closed-kept s 0))

  new-hands :
      (st : ℕ) (test : Call → Bool) → eqb FREE st ≡ false → eqb NOEXIST st ≡ false → test closed ≡ false →
      one_to_one st test s (new s) (replicate (CELLS * s.threads) 0) ≡ true
  unfolding one_to_one
  new-hands st test e f n =
      every_of s.levels _ (λ l i.
      every_of (count s l) _ (λ b h.
      rw (
        tally-fails s.threads (λ t. in_hand test l b (call_of (replicate (CELLS * s.threads) 0) t))
            (λ t k. rw (no_call t, n)),
        new-test (λ x. eqb x st) false e f (place s l b) (place_inside s l b i h),
      )))

  new-ended : queue_ends s (replicate (s.threads + 1) 0) ≡ true
  unfolding queue_ends
  new-ended =
      rw (get_or-zeros (s.threads + 1) 0)
      (both_of _ _ (le-leb 0 s.threads (omega arith))
      (every_of s.threads _ (λ i k. rw (le-ltb i 0 (omega arith), get_or-zeros (s.threads + 1) (1 + i)))))

  new-queue : waiters_queued s (replicate (CELLS * s.threads) 0) (replicate (s.threads + 1) 0) ≡ true
  unfolding queue_of
  new-queue =
      waiters-of s (replicate (CELLS * s.threads) 0) (replicate (s.threads + 1) 0)
      (rw (get_or-zeros (s.threads + 1) 0) (record { each = λ t h. rw (no_call t) (times_none t); others = λ t h. times_none t }))

pub fresh_kept : {s : Shape} → Limits s → Facts s (fresh s)
unfolding fresh running_ready
fresh_kept {s} m =
    record {
      pool =
          record {
            long = new-long m;
            owners_long = length-replicate (blocks s) 0;
            lists_long = (new-lists m).long;
            known = new-known m;
            owned = new-owners m;
            tops = new-tops m;
            parts = new-parts m;
            deepest = new-deepest m;
            merged = new-merged m;
            ends = (new-lists m).ends;
            listed = (new-lists m).listed;
          };
      threads =
          record {
            long = length-replicate (CELLS * s.threads) 0;
            queue_long = length-replicate (s.threads + 1) 0;
            kept = new-calls m;
            ends = new-ended m;
            waiters = new-queue m;
            running = refl;
          };
      hands =
          record {
            allocating = new-hands m ALLOCATING dividing refl refl refl;
            freeing = new-hands m FREEING releasing refl refl refl;
          };
    }
