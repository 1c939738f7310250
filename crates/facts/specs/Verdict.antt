-- What the refusals 1 to 3 say of tables: sound tables meet none of them, all others one.
-- Assumes nothing.
use Rattle.std.specs.Prelude.{Ok, Err, ◌≡◌, Bool, not, ◌&&◌, List, get_or, ℕ, ◌+◌, ◌<◌, eqb, ltb}
use Rattle.std.proofs.Math.Path.{refl}
use Rattle.std.proofs.Common.{sym, ◌∙◌, ap, arith, eqb-true, lt-ltb, ltb-true, eq-eqb}
use Rattle.std.proofs.Math.Bool.{true, false, true≢false}
use Rattle.laws.specs.Tests.{both}
use Rattle.shape.specs.declared.Shape.{Shape}
use Rattle.shape.specs.Limits.{allowed}
use Rattle.rules.specs.declared.Refusal.{Refusal}
use Rattle.rules.specs.declared.Refusal.TheVariants.{ShapeNotAllowed, WrongLength, NotValid}
use Rattle.rules.specs.Refusals.{Verdict}
use Rattle.rules.specs.Tables.{State, lengths, state_at}
use Rattle.rules.specs.Valid.{valid}
use Rattle.rules.specs.Refusals.{failing, through, fitting, verdict, held_by, running, id_outside}
use Rattle.facts.specs.Lines.{Sound}
use Rattle.shape.specs.Blocks.{count, place, id_pool, id_level, id_block}
use Rattle.rules.specs.declared.Device.{Device}
use Rattle.rules.specs.Numbers.{ALLOCATED}
use Rattle.std.proofs.lemmas.Bool.{not-false}

-- a refusal is no pass
pub failed : {r : Refusal} → ◌≡◌ {A = Verdict} (Err r) (Ok tt) → ⊥
failed e = let z : ◌≡◌ {A = ℕ} 0 1 = cc in omega arith

module _ {s : Shape} {T : State} where
  -- the shape and the lengths, by the two refusals
  pub by-fitting :
      (P : Verdict → Type 0) → ((Sound s T → ⊥) → P (Err ShapeNotAllowed)) → ((Sound s T → ⊥) → P (Err WrongLength)) →
      (allowed s ≡ true → lengths s T ≡ true → P (Ok tt)) → P (fitting s T)
  unfolding fitting
  by-fitting P shape long fits = go (allowed s) (lengths s T) refl refl
    where
      go :
          (a l : Bool) → allowed s ≡ a → lengths s T ≡ l →
          P (failing (not a) ShapeNotAllowed (failing (not l) WrongLength (Ok tt)))
      go true true p q = fits p q
      go true false p q = long (λ g. true≢false (sym g.lengths ∙ q))
      go false l p q = shape (λ g. true≢false (sym g.shape ∙ p))

  -- the tables, by the three
  pub by-verdict :
      (P : Verdict → Type 0) → ((Sound s T → ⊥) → P (Err ShapeNotAllowed)) → ((Sound s T → ⊥) → P (Err WrongLength)) →
      ((Sound s T → ⊥) → P (Err NotValid)) → (Sound s T → P (Ok tt)) → P (verdict s T)
  unfolding verdict
  by-verdict P shape long invalid sound =
      by-fitting (λ v. P (through Err v (failing (not (valid s T)) NotValid (Ok tt)))) shape long
      (λ a l. go a l (valid s T) refl)
    where
      go : allowed s ≡ true → lengths s T ≡ true → (v : Bool) → valid s T ≡ v → P (failing (not v) NotValid (Ok tt))
      go p q true r = sound (record { shape = p; lengths = q; valid = r })
      go p q false r = invalid (λ g. true≢false (sym g.valid ∙ r))

-- sound tables are those that pass
pub passes : {s : Shape} {T : State} → Sound s T → verdict s T ≡ Ok tt
unfolding verdict fitting
passes g = rw (g.shape, g.lengths, g.valid)

pub passed : (s : Shape) (T : State) → verdict s T ≡ Ok tt → Sound s T
passed s T =
    by-verdict (λ v. v ≡ Ok tt → Sound s T) (λ _ e. absurd (failed e)) (λ _ e. absurd (failed e)) (λ _ e. absurd (failed e))
    (λ g _. g)

pub fitting-passed : (s : Shape) (T : State) → fitting s T ≡ Ok tt → (allowed s ≡ true) × (lengths s T ≡ true)
fitting-passed s T =
    by-fitting (λ v. v ≡ Ok tt → (allowed s ≡ true) × (lengths s T ≡ true)) (λ _ e. absurd (failed e))
    (λ _ e. absurd (failed e))
    (λ a l _. (a, l))

-- a call that works out a verdict gives its refusal where that failed, and goes on where it passed
module _ {A : Type 0} {v w : Verdict} (give : Refusal → A) (rest : A) (e : v ≡ w) where
  pub stops : {r : Refusal} → v ≡ Err r → give r ≡ through give w rest
  stops f = ap (λ (x : Verdict). through give x rest) (sym f ∙ e)

  pub goes : {o : A} → v ≡ Ok tt → o ≡ rest → o ≡ through give w rest
  goes f p = p ∙ ap (λ (x : Verdict). through give x rest) (sym f ∙ e)

-- what passes passes each test
pub not-failing : (b : Bool) (r : Refusal) (next : Verdict) → failing b r next ≡ Ok tt → (b ≡ false) × (next ≡ Ok tt)
not-failing true r next e = absurd (failed e)
not-failing false r next e = (refl, e)

-- the thread is one of the shape, and runs
pub running-passed : (s : Shape) (d : Device) (t : ℕ) → running s d t ≡ Ok tt → (t < s.threads) × (d.running ≡ t + 1)
unfolding running
running-passed s d t e =
    let f1 = not-failing _ _ _ e in
    let f2 = not-failing _ _ _ f1.1 in
    (ltb-true _ _ (not-false _ f1.0), eqb-true _ _ (not-false _ f2.0))

pub running-passes : (s : Shape) (d : Device) (t : ℕ) → t < s.threads → d.running ≡ t + 1 → running s d t ≡ Ok tt
unfolding running
running-passes s d t h n = rw (lt-ltb t s.threads h, eq-eqb d.running (t + 1) n)

-- the id names a block of the shape that the thread holds
pub record HeldFacts (s : Shape) (states owners : List ℕ) (t i : ℕ) : Type 0 where
  pub inside : id_outside s i ≡ false
  pub allocated : state_at s states (id_level i) (id_block i) ≡ ALLOCATED
  pub owned : get_or owners (place s (id_level i) (id_block i)) 0 ≡ t + 1

pub held-passed : (s : Shape) (states owners : List ℕ) (t i : ℕ) → held_by s states owners t i ≡ Ok tt → HeldFacts s states owners t i
unfolding held_by
held-passed s states owners t i e =
    let f1 = not-failing _ _ _ e in
    let f2 = not-failing _ _ _ f1.1 in
    let f3 = not-failing _ _ _ f2.1 in
    record { inside = f1.0; allocated = eqb-true _ _ (not-false _ f2.0); owned = eqb-true _ _ (not-false _ f3.0) }

-- and so its level and its number are those of a block
pub id-inside : (s : Shape) (i : ℕ) → id_outside s i ≡ false → (id_level i < s.levels) × (id_block i < count s (id_level i))
unfolding id_outside
id-inside s i e =
    let f1 = both (eqb (id_pool i) s.pool && ltb (id_level i) s.levels) (ltb (id_block i) (count s (id_level i))) (not-false _ e) in
    let f2 = both (eqb (id_pool i) s.pool) (ltb (id_level i) s.levels) f1.0 in
    (ltb-true _ _ f2.1, ltb-true _ _ f1.1)
