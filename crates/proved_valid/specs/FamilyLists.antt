-- A block and its parts change state: the list of the parts' level is put, and the other lists stay.
-- Assumes nothing.
use Rattle.std.specs.Prelude.{◌≡◌, refl, List, ℕ, ◌+◌, ◌*◌, ◌/◌, ◌≤◌, ◌<◌, get_or, eqb}
use Rattle.std.proofs.Common.{sym, ◌∙◌, ap, arith}
use Rattle.laws.specs.Tests.{bit}
use Rattle.laws.specs.Lists.{times}
use Rattle.shape.specs.declared.Shape.{Shape}
use Rattle.shape.specs.Limits.{parts}
use Rattle.shape.specs.Blocks.{count}
use Rattle.rules.specs.Numbers.{FREE}
use Rattle.rules.specs.Tables.{state_at, free_list, put_list}
use Rattle.proved_valid.specs.FreeLists.{Lists, Listing, listed_at, listing-put}
use Rattle.proved_valid.specs.Family.{Family, Elsewhere, by-family, family, family-part, family-rest}
use Rattle.proved_valid.specs.FamilyLines.{but-parts}

-- the list names the parts that become FREE, and of all other blocks of their level those that the list there named
pub record Relists (s : Shape) (lists : List ℕ) (l b : ℕ) (vs xs : List ℕ) : Type 0 where
  pub part : (j : ℕ) → j < parts s → times (parts s * b + j) xs ≡ bit (eqb (get_or vs j 0) FREE)
  pub rest : (a : ℕ) → a < count s (l + 1) → (a / parts s ≡ b → ⊥) → times a xs ≡ times a (free_list s lists (l + 1))
  pub others : (a : ℕ) → count s (l + 1) ≤ a → times a xs ≡ 0

module _ {s : Shape} {states lists : List ℕ} {l b : ℕ} {vs xs : List ℕ} (f : Family s states l b vs) (own : ℕ)
    (p : Listing s states lists) (r : Relists s lists l b vs xs) where
  relisted : Lists s (family s states l b own vs) (l + 1) xs
  relisted = record { each = λ a h. at (l + 1) a refl h; others = r.others }
    where
      elsewhere :
          (m a : ℕ) → Elsewhere s l b m a → m ≡ l + 1 → a < count s m →
          times a xs ≡ bit (eqb (state_at s (family s states l b own vs) m a) FREE)
      elsewhere m a d q h =
          r.rest a (rw q at h) (d.1 q)
          ∙ (listed_at p (l + 1) f.level).each a (rw q at h)
          ∙ ap (λ (n : ℕ). bit (eqb (state_at s states n a) FREE)) (sym q)
          ∙ ap (λ (x : ℕ). bit (eqb x FREE)) (sym (family-rest f own m a h d))

      at :
          (m a : ℕ) → m ≡ l + 1 → a < count s m → times a xs ≡ bit (eqb (state_at s (family s states l b own vs) m a) FREE)
      at =
          by-family s l b _ (λ q h. absurd (omega arith))
          (λ j i q h. r.part j i ∙ ap (λ (x : ℕ). bit (eqb x FREE)) (sym (family-part f own j i)))
          elsewhere

  pub listing-family :
      eqb own FREE ≡ eqb (state_at s states l b) FREE → Listing s (family s states l b own vs) (put_list s lists (l + 1) xs)
  listing-family e =
      listing-put p f.level relisted (λ m a d i h. but-parts f own (λ x. eqb x FREE) e m a h (λ q w. d q))
