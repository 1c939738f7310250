-- What a take comes to, by whether the found level's list is empty: what was put gives the rule's outcome.
-- Assumes nothing.
use Rattle.std.specs.Prelude.{Ok}
use mathlib.Core.Path.{◌≡◌, sym, ap}
use mathlib.Core.List.{List, ◌∷◌}
use Prim.Native.Nat.{ℕ, ◌<◌}
use lib.ListN.{length, get_or, set, drop}
use Rattle.std.proofs.Common.{drop-cons}
use Rattle.std.proofs.lemmas.List.{nil_from_length}
use Rattle.shape.specs.declared.Shape.{Shape}
use Rattle.shape.specs.Blocks.{place, id}
use Rattle.rules.specs.declared.Device.{Device}
use Rattle.rules.specs.declared.Call.{Call}
use Rattle.rules.specs.declared.Answer.TheVariants.{Again, Taken}
use Rattle.rules.specs.Numbers.{ALLOCATING, ASKED, DIVIDING}
use Rattle.rules.specs.Tables.{state, free_list, put_list, put_call}
use Rattle.rules.specs.Steps.{outcome, holding, moved, take_from, take_step}

module _ (s : Shape) (states owners lists calls queue : List ℕ) (d : Device) (t : ℕ) (c : Call) where
  pub again :
      {put : List ℕ} {k : Call} → length (free_list s lists c.level) ≡ 0 → put ≡ put_call calls t k → k ≡ moved c ASKED 0 →
      outcome (Ok Again) (state states owners lists put queue d) ≡ take_step s (state states owners lists calls queue d) t c
  unfolding take_step take_from
  again h p e = rw (p, e, nil_from_length (free_list s lists c.level) h)

  pub taken :
      {marked listed put : List ℕ} {k : Call} {b i : ℕ} → 0 < length (free_list s lists c.level) →
      b ≡ get_or (free_list s lists c.level) 0 0 → listed ≡ put_list s lists c.level (drop 1 (free_list s lists c.level)) →
      marked ≡ set states (place s c.level b) ALLOCATING → put ≡ put_call calls t k →
      k ≡ holding DIVIDING c.size c.level b → i ≡ id s c.level b →
      outcome (Ok (Taken i)) (state marked owners listed put queue d)
      ≡ take_step s (state states owners lists calls queue d) t c
  unfolding take_step take_from
  taken {b = b} h f l m p e i =
      rw (l, m, p, e, i, f) (sym (from (free_list s lists c.level) h))
    where
      from :
          (xs : List ℕ) → 0 < length xs →
          take_from s (state states owners lists calls queue d) t c xs
          ≡ take_from s (state states owners lists calls queue d) t c (get_or xs 0 0 ∷ drop 1 xs)
      from xs q = ap (take_from s (state states owners lists calls queue d) t c) (drop-cons xs 0 0 q)
