-- Only valid orders are ever asked about, and so only valid orders are ruled.
use mathlib.Core.Path.{subst⁻¹}
use mathlib.Core.Logic.{inl, inr}
use mathlib.Core.List.Memᴰ
use mathlib.Core.List.{List, Memᴰ}
use Prim.Native.Nat.{ℕ}
use lib.Dec.{T}
use Rattle.protocol.specs.Model.{Model}
use Rattle.protocol.specs.Laws.{Laws}
use Rattle.protocol.specs.Net.{Msg, Hold, Net, Step, submit, hold, vote, rule, give_up, answer, learn, sync, stop, yes_again, again, Reach, begin, then}
use Rattle.protocol.proofs.Inv.{new-hold}
use Rattle.protocol.proofs.Reached.{reach-keeps}

module _ (M : Model) (n : ℕ) where
  AllValid : List (Msg M) → Type 0
  AllValid ms = (t : M.Order) → Memᴰ (Hold t) ms → T (M.valid n t)

  step-valid : (s t : Net M) → AllValid s.sent → Step M n s t → AllValid t.sent
  unfolding AllValid
  step-valid s t a (submit _ i _ o ok _ _ _) = λ u k. elim (new-hold M (Hold o) s.sent u k) [ inl e ↦ subst⁻¹ (λ (x : M.Order). T (M.valid n x)) e ok | inr r ↦ a u r ]
  step-valid s t a (hold _ i _ o _ _) = λ u k. elim (new-hold M _ s.sent u k) [ inl e ↦ absurd e | inr r ↦ a u r ]
  step-valid s t a (vote _ i j _ d _) = a
  step-valid s t a (rule _ i _ q _ _) = λ u k. elim (new-hold M _ s.sent u k) [ inl e ↦ absurd e | inr r ↦ a u r ]
  step-valid s t a (give_up _ i _ q _) = λ u k. elim (new-hold M _ s.sent u k) [ inl e ↦ absurd e | inr r ↦ a u r ]
  step-valid s t a (answer _ i _ d _ c _) = λ u k. elim (new-hold M _ s.sent u k) [ inl e ↦ absurd e | inr r ↦ a u r ]
  step-valid s t a (learn _ i _ d c _ _) = a
  step-valid s t a (sync _ i _) = a
  step-valid s t a (stop _ i _ k _) = a
  step-valid s t a (yes_again _ i _ d _) = λ u k. elim (new-hold M _ s.sent u k) [ inl e ↦ absurd e | inr r ↦ a u r ]
  step-valid s t a (again _ m x) = λ u k. elim (Memᴰ.cases_cons k) [ inl e ↦ a u (subst⁻¹ (λ (y : Msg M). Memᴰ y s.sent) e x) | inr r ↦ a u r ]

  pub sent-valid : (s : Net M) → Reach M n s → (t : M.Order) → Memᴰ (Hold t) s.sent → T (M.valid n t)
  unfolding AllValid
  sent-valid s begin = λ t k. elim k [ ]
  sent-valid s (then {s = r} p q) = step-valid r s (sent-valid r p) q

  pub done-valid : Laws M → (s : Net M) → Reach M n s → (t : M.Order) → Memᴰ t s.done → T (M.valid n t)
  done-valid L s p t k = sent-valid s p t ((reach-keeps M L n s p).dones t k).known
