-- Steps of a walk that no function is needed for: a place whose local is known, a local copied, a local freed whatever it holds.
-- Assumes `Logic`.
use Rattle.std.specs.Prelude.{◌≡◌, ℕ, zero, List, [], ◌∷◌}
use Rattle.std.proofs.Common.{sym, subst}
use seplogic.Ra.Ura.{Ura}
use base.Fraction.{full_share}
use mir.Syntax.{Ty, Step as PlaceStep, place, copy}
use mir.Val.{Val}
use base.Logic.{ent, sep, via, mono∗, mono_r}
use base.Fml.{Share, fat, fdies}
use prog.Wp.{Env, Spot, spot_of}
use types.Logic.{Logic}
use types.Kit.{Item, Goal, frees, ‵, Step, step, ◌$◌, mean, ⋆, nth, del, pull, push}
use types.Run.{Walks, Finds, Opd, look, stop, from, load, free1}

-- a place whose local is known
pub at-spot : {M : Type 1} {𝓤 : Ura M} {𝓛 : Logic 𝓤} {K : Type 0} {Γ : List (Item 𝓤)} → K → {E : Env 𝓤 𝓛.H} {k : ℕ} {st : List PlaceStep} {sp sp' : Spot 𝓤 𝓛.H} → spot_of 𝓤 𝓛.H E k ≡ sp → Walks K 𝓛 Γ E sp st sp' → Finds K 𝓛 Γ E (place k st) sp'
at-spot {𝓤 = 𝓤} {𝓛 = 𝓛} {K = K} {Γ = Γ} t {E} {k} {st} {sp} {sp'} e w = from t (subst (λ (s : Spot 𝓤 𝓛.H). Walks K 𝓛 Γ E s st sp') (sym e) w)

-- a local is copied
pub copied : {M : Type 1} {𝓤 : Ura M} {𝓛 : Logic 𝓤} {K : Type 0} {Γ : List (Item 𝓤)} → K → (i : ℕ) {q : Share} {E : Env 𝓤 𝓛.H} {k : ℕ} {v : Val}
    → nth 𝓛 i Γ ≡ ‵ (fat q (spot_of 𝓤 𝓛.H E k).0 (spot_of 𝓤 𝓛.H E k).1 zero v) → Opd K 𝓛 Γ E (copy (place k [])) v
copied t i e = load t (from t (stop t)) (look t i e)

-- a local is freed, whatever it holds
pub leave : {M : Type 1} {𝓤 : Ura M} {𝓛 : Logic 𝓤} {K : Type 0} {Γ : List (Item 𝓤)} → K → (i : ℕ) {τ : Ty} {b : ℕ} {v : Val} {E : Env 𝓤 𝓛.H} {G : Goal 𝓤 𝓛.H}
    → nth 𝓛 i Γ ≡ ‵ (fat full_share τ b zero v) → nth 𝓛 i (del 𝓛 i Γ) ≡ ‵ (fdies τ b) → Step K 𝓛 (del 𝓛 i (del 𝓛 i Γ)) (frees E G) Γ (frees ((τ, b) ∷ E) G)
leave {𝓤 = 𝓤} {𝓛 = 𝓛} {Γ = Γ} t i {τ} {b} {v} at_i dies-i = step (λ s. record {
  prf =
      via 𝓤 _ (subst (λ (j : Item 𝓤). ent 𝓤 (⋆ 𝓛 Γ) (sep 𝓤 (mean 𝓛 j) (⋆ 𝓛 (del 𝓛 i Γ)))) at_i (pull 𝓛 i Γ))
      (via 𝓤 _ (mono∗ 𝓤 (𝓛.laws.at_room τ b zero v) (subst (λ (j : Item 𝓤). ent 𝓤 (⋆ 𝓛 (del 𝓛 i Γ)) (sep 𝓤 (mean 𝓛 j) (⋆ 𝓛 (del 𝓛 i (del 𝓛 i Γ))))) dies-i (pull 𝓛 i (del 𝓛 i Γ))))
      (via 𝓤 _ (mono_r 𝓤 (𝓛.H.room τ b zero) (push 𝓛 (‵ (fdies τ b)) (del 𝓛 i (del 𝓛 i Γ)))) (free1 t $ s).prf));
})
