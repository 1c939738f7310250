-- One thread's call is put: what the lines on calls say of the others stays, and a count over all threads changes by that one.
-- Assumes nothing.
use Rattle.std.specs.Prelude.{◌≡◌, refl, false, ◌&&◌, List, length, eqb}
use Rattle.std.proofs.Common.{sym, ◌∙◌, ap, add-zero, arith}
use Rattle.std.proofs.Math.Bool.{Bool, true}
use Prim.Native.Nat.{ℕ, zero, suc, ◌+◌, ◌*◌, ◌-◌, ◌<◌}
use Rattle.std.proofs.Math.Decide.{dec_lt, ℕ_discrete}
use Rattle.std.proofs.Math.ListN.{get_or}
use Rattle.std.proofs.Math.Seq.{length-sets, ext_get_or}
use borrow.Author.Tests.{le-leb, eqb-true, eq-eqb, ne_eqb}
use Rattle.laws.specs.Tests.{bit, every-at, every_of, tally}
use Rattle.laws.specs.Keep.{get_or-sets, get_or-sets-other}
use Rattle.laws.specs.Changes.{tally-one}
use Rattle.shape.specs.declared.Shape.{Shape}
use Rattle.shape.specs.Blocks.{count}
use Rattle.rules.specs.declared.Call.{Call}
use Rattle.rules.specs.declared.Device.{Device}
use Rattle.rules.specs.Numbers.{WAITING, CELLS}
use Rattle.rules.specs.Tables.{state_at, call_of, cells, put_call}
use Rattle.rules.specs.Valid.{in_hand, one_to_one, call_kept, calls_kept, running_ready}
use Rattle.facts.specs.Call.{call_of-put_call, call_of-put_call-other}

-- a call that fails the test has no block in hand for it
pub not-in-hand : (test : Call → Bool) (l b : ℕ) (c : Call) → test c ≡ false → in_hand test l b c ≡ false
not-in-hand test l b c n = rw n

-- nor has one whose block in hand is another
pub hand-elsewhere : (test : Call → Bool) (l b : ℕ) (c : Call) → (c.level ≡ l → c.block ≡ b → ⊥) → in_hand test l b c ≡ false
hand-elsewhere test l b c n = go (test c) (ℕ_discrete c.level l) (ℕ_discrete c.block b)
  where
    go : (x : Bool) → Dec (c.level ≡ l) → Dec (c.block ≡ b) → (x && eqb c.level l && eqb c.block b) ≡ false
    go false p q = refl
    go true (no p) q = rw (ne_eqb _ _ p)
    go true (yes p) (no q) = rw (eq-eqb _ _ p, ne_eqb _ _ q)
    go true (yes p) (yes q) = absurd (n p q)

pub hand-there :
    (test : Call → Bool) (l b : ℕ) (c : Call) → test c ≡ true → c.level ≡ l → c.block ≡ b → in_hand test l b c ≡ true
hand-there test l b c e f g = rw (e, eq-eqb _ _ f, eq-eqb _ _ g)

-- a thread that isn't blocked may run
pub running-of :
    (s : Shape) (calls : List ℕ) (device : Device) (t : ℕ) → device.running ≡ t + 1 → t < s.threads →
    ((call_of calls t).stage ≡ WAITING → ⊥) → running_ready s calls device ≡ true
unfolding running_ready
running-of s calls device t e h n =
    let q : device.running - 1 ≡ t = omega arith in
    rw (ne_eqb device.running 0 (omega arith), le-leb device.running s.threads (omega arith), q, ne_eqb _ _ n)

-- the cells of a call as they stand in the table
cell : (calls : List ℕ) (t k : ℕ) → k < CELLS → get_or (cells (call_of calls t)) k 0 ≡ get_or calls (CELLS * t + k) 0
unfolding call_of
cell calls t zero h = rw add-zero
cell calls t (suc zero) h = refl
cell calls t (suc (suc zero)) h = refl
cell calls t (suc (suc (suc zero))) h = refl
cell calls t (suc (suc (suc (suc zero)))) h = refl
cell calls t (suc (suc (suc (suc (suc zero))))) h = refl
cell calls t (suc (suc (suc (suc (suc (suc k)))))) h = absurd (omega arith)

module _ (s : Shape) (calls : List ℕ) (t : ℕ) (c : Call) (long : length calls ≡ CELLS * s.threads) (h : t < s.threads) where
  pub put-mine : call_of (put_call calls t c) t ≡ c
  put-mine = call_of-put_call calls t c (omega arith)

  -- a call that is put back where it stood leaves the table as it was
  pub put_back : put_call (put_call calls t c) t (call_of calls t) ≡ calls
  unfolding put_call call_of
  put_back = ext_get_or 0 _ calls (simp length-sets) (λ i l. at i (dec_lt i (CELLS * t)) (dec_lt i (CELLS * t + CELLS)))
    where
      other :
          (i : ℕ) → ((k : ℕ) → k < CELLS → i ≡ CELLS * t + k → ⊥) →
          get_or (put_call (put_call calls t c) t (call_of calls t)) i 0 ≡ get_or calls i 0
      other i n = get_or-sets-other (put_call calls t c) (cells (call_of calls t)) (CELLS * t) i 0 n ∙ get_or-sets-other calls (cells c) (CELLS * t) i 0 n

      at :
          (i : ℕ) → Dec (i < CELLS * t) → Dec (i < CELLS * t + CELLS) →
          get_or (put_call (put_call calls t c) t (call_of calls t)) i 0 ≡ get_or calls i 0
      at i (no p) (yes q) =
          let e : i ≡ CELLS * t + (i - CELLS * t) = omega arith in
          ap (λ (k : ℕ). get_or (put_call (put_call calls t c) t (call_of calls t)) k 0) e
          ∙ get_or-sets (put_call calls t c) (cells (call_of calls t)) (CELLS * t) (i - CELLS * t) 0 (omega arith) (simp length-sets (omega arith))
          ∙ cell calls t (i - CELLS * t) (omega arith)
          ∙ ap (λ (k : ℕ). get_or calls k 0) (sym e)
      at i (yes p) q = other i (λ k l. omega arith)
      at i (no p) (no q) = other i (λ k l. omega arith)

  pub calls-put :
      (clock : ℕ) → calls_kept s clock calls ≡ true → call_kept s clock c ≡ true → calls_kept s clock (put_call calls t c) ≡ true
  unfolding calls_kept
  calls-put clock e k = every_of s.threads _ (λ u l. at u l (ℕ_discrete u t))
    where
      at : (u : ℕ) → u < s.threads → Dec (u ≡ t) → call_kept s clock (call_of (put_call calls t c) u) ≡ true
      at u l (yes q) = rw (q, put-mine) k
      at u l (no q) = rw (call_of-put_call-other calls t u c q) (every-at s.threads _ e u l)

  -- blocks stay one to one to calls where the state and the call change together
  pub hands-put :
      (st : ℕ) (test : Call → Bool) (before after : List ℕ) → one_to_one st test s before calls ≡ true →
      ((l b : ℕ) → l < s.levels → b < count s l →
      bit (eqb (state_at s after l b) st) + bit (in_hand test l b (call_of calls t))
      ≡ bit (eqb (state_at s before l b) st) + bit (in_hand test l b c)) →
      one_to_one st test s after (put_call calls t c) ≡ true
  unfolding one_to_one
  hands-put st test before after e k =
      every_of s.levels _ (λ l i. every_of (count s l) _ (λ b j. eq-eqb _ _ (at l b i j)))
    where
      hand : ℕ → ℕ → ℕ → Bool
      hand l b u = in_hand test l b (call_of calls u)

      after-hand : ℕ → ℕ → ℕ → Bool
      after-hand l b u = in_hand test l b (call_of (put_call calls t c) u)

      was : (l b : ℕ) → l < s.levels → b < count s l → tally s.threads (hand l b) ≡ bit (eqb (state_at s before l b) st)
      was l b i j = eqb-true _ _ (every-at (count s l) _ (every-at s.levels _ e l i) b j)

      at :
          (l b : ℕ) → l < s.levels → b < count s l →
          tally s.threads (after-hand l b) ≡ bit (eqb (state_at s after l b) st)
      at l b i j =
          omega (
            arith,
            tally-one s.threads t (hand l b) (after-hand l b) h
                (λ u m d. ap (in_hand test l b) (sym (call_of-put_call-other calls t u c d))),
            was l b i j,
            k l b i j,
            ap (λ (d : Call). bit (in_hand test l b d)) put-mine,
          )
