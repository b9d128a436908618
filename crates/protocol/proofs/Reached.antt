-- Every reachable network keeps to the invariant, and what follows from it.
use mathlib.Core.Path.{◌≡◌, refl, sym, subst⁻¹}
use mathlib.Core.Logic.{◌⊎◌, inl, inr}
use mathlib.Core.Bool.{Bool, true, false, cond}
use mathlib.Core.List.{List, [], ◌∷◌, Memᴰ}
use Prim.Native.Nat.{ℕ, ◌<◌}
use native.Mathlib.Omega.{arith}
use lib.Dec.{T}
use lib.ListN.{take}
use Rattle.protocol.specs.declared.Name.{Name}
use Rattle.protocol.specs.Model.{Model, same_name, played_all, SerialAll}
use Rattle.protocol.specs.Laws.{Laws}
use mathlib.Core.List.Memᴰ
use Rattle.protocol.specs.House.{Rec, Began, Held, Done, Dropped, Ruled, holding, stock_from, stock, ruled}
use Rattle.protocol.specs.Net.{Asking, Hold, Told, Net, begun, start, asked, CanSay, say_done, say_old, say_over, Step, submit, hold, vote, rule, give_up, answer, learn, sync, stop, yes_again, again, Reach, begin, then}
use Rattle.protocol.proofs.Basics.{decide, same-eq, eq-same, same_refl, snoc_old}
use Rattle.protocol.proofs.Held.{Distinct, held-of-holding, fate, mem-of-in, in-of-mem}
use Rattle.protocol.specs.Sound.{settle, Whole, Sound}
use Rattle.protocol.proofs.Asks.{OnceAsked, mem-of-asked}
use Rattle.protocol.proofs.Inv.{Inv, Good, RecOk, kept-all, Hard, hard-at}
use Rattle.protocol.proofs.StepsAsk.{submit-keeps, vote-keeps, give_up-keeps, answer_keeps}
use Rattle.protocol.proofs.StepsFile.{hold-keeps, learn-keeps, sync-keeps, stop-keeps, full, yes-keeps, resend-keeps}
use Rattle.protocol.proofs.StepRule.{rule-keeps}

module _ (M : Model) (L : Laws M) (n : ℕ) where
  begun-good : (j : ℕ) → Good M L [] j (Began ∷ []) (Began ∷ [])
  unfolding holding stock_from settle Distinct played_all
  begun-good j = record { began = refl; hard = λ r h k. k; within = λ r k. k; apart = tt; fits = L.none j; level = refl }

  begin-keeps : Inv M L n (start M)
  unfolding OnceAsked SerialAll
  begin-keeps = record {
    once = λ t u p q e. elim p [ ];
    msgs = λ m k. elim k [ ];
    dones = λ t k. elim k [ ];
    serial = tt;
    recs = λ j r k. subst⁻¹ (λ (x : Rec M). RecOk [] [] j x) (Memᴰ.eq_of_singleton k) tt;
    asks = λ j a k. elim k [ ];
    ask_once = λ j. tt;
    tries = λ j t k. elim k [ ];
    good = λ j f k. subst⁻¹ (λ (x : List (Rec M)). Good M L [] j (Began ∷ []) x) (kept-all M (begun M) (omega arith) f k) (begun-good j);
  }

  pub step_keeps : (s t : Net M) → Inv M L n s → Step M n s t → Inv M L n t
  step_keeps s t v (submit _ i b o ok eh es new) = submit-keeps M L n s v i b o eh es new
  step_keeps s t v (hold _ i b o k may) = hold-keeps M L n s v i o k may
  step_keeps s t v (vote _ i j b d k) = vote-keeps M L n s v i j d k
  step_keeps s t v (rule _ i b a k all) = rule-keeps M L n s v i a k all
  step_keeps s t v (give_up _ i b a k) = give_up-keeps M L n s v i a k
  step_keeps s t v (answer _ i b d e c say) = answer_keeps M L n s v i d e c say
  step_keeps s t v (learn _ i b d c k h) = learn-keeps M L n s v i d c k h
  step_keeps s t v (sync _ i b) = sync-keeps M L n s v i (record { home = 0; start = 0; number = 0 })
  step_keeps s t v (stop _ i b k l) = stop-keeps M L n s v i k l
  step_keeps s t v (yes_again _ i b d h) = yes-keeps M L n s v i d h
  step_keeps s t v (again _ m k) = resend-keeps M L n s v m k

  pub reach-keeps : (s : Net M) → Reach M n s → Inv M L n s
  reach-keeps s begin = begin-keeps
  reach-keeps s (then {s = r} p q) = step_keeps r s (reach-keeps r p) q

  -- no step takes a hard record from a file
  pub step-hard : (s t : Net M) → Reach M n s → Step M n s t → (i : ℕ) (r : Rec M) → Hard r → Memᴰ r (s.house i).file → Memᴰ r (t.house i).file
  step-hard s t p (submit _ i b o ok eh es new) = hard-at M L n s i _ (λ r g x. x)
  step-hard s t p (hold _ i b o k may) = hard-at M L n s i _ (λ r g x. snoc_old (s.house i).file (Held o) r x)
  step-hard s t p (vote _ i j b d k) = hard-at M L n s i _ (λ r g x. x)
  step-hard s t p (rule _ i b a k all) = hard-at M L n s i _ (λ r g x. snoc_old (s.house i).file (Ruled a.order) r x)
  step-hard s t p (give_up _ i b a k) = hard-at M L n s i _ (λ r g x. x)
  step-hard s t p (answer _ i b d e c say) = λ j r g x. x
  step-hard s t p (learn _ i b d c k h) = hard-at M L n s i _ (λ r g x. snoc_old (s.house i).file (cond c (Done d) (Dropped d)) r x)
  step-hard s t p (sync _ i b) = hard-at M L n s i _ (λ r g x. x)
  step-hard s t p (yes_again _ i b d h) = λ j r g x. x
  step-hard s t p (again _ m k) = λ j r g x. x
  step-hard s t p (stop _ i b k l) =
      hard-at M L n s i _ (λ r g x. snoc_old (take k (s.house i).file) Began r (((reach-keeps s p).good i (take k (s.house i).file) (k, l, refl)).hard r g x))

  module _ (s : Net M) (p : Reach M n s) where
    v : Inv M L n s
    v = reach-keeps s p

    pub one_name : (t u : M.Order) → Memᴰ t s.done → Memᴰ u s.done → T (same_name (M.name t) (M.name u)) → t ≡ u
    one_name t u a b e = v.once t u (v.dones t a).known (v.dones u b).known (same-eq _ _ e)

    pub done-ruled : (i : ℕ) (d : Name) → Memᴰ (Done d) (s.house i).file → (t : M.Order) × Memᴰ t s.done × T (same_name d (M.name t))
    done-ruled i d k = let w = mem-of-in M d s.done (v.recs i (Done d) k) in (w.0, w.1, eq-same _ _ (sym w.2))

    pub final : (d : Name) → Memᴰ (Told d false) s.sent → (t : M.Order) → Memᴰ t s.done → T (same_name d (M.name t)) → ⊥
    final d k t m e = (v.msgs (Told d false) k).0 (in-of-mem M d t s.done m (sym (same-eq _ _ e)))

    pub ruled-held : (i : ℕ) (t : M.Order) → Memᴰ t s.done → T (M.party i t) → Memᴰ t (holding M [] (s.house i).file) ⊎ Memᴰ (Done (M.name t)) (s.house i).file
    ruled-held i t m q = elim (fate M (s.house i).file t ((v.dones t m).held i q)) [
      | inl x ↦ inl x
      | inr y ↦ elim y [ inl x ↦ inr x | inr x ↦ absurd (final (M.name t) (v.recs i (Dropped (M.name t)) x) t m (same_refl (M.name t))) ]
    ]

    pub known : (i : ℕ) (t : M.Order) → Memᴰ t (holding M [] (s.house i).file) → Memᴰ (Hold t) s.sent
    known i t m = (v.recs i (Held t) (held-of-holding M (s.house i).file t m)).0

    pub held-once : (i : ℕ) (t u : M.Order) → Memᴰ t (holding M [] (s.house i).file) → Memᴰ u (holding M [] (s.house i).file) → M.name t ≡ M.name u → t ≡ u
    held-once i t u a b e = v.once t u (known i t a) (known i u b) e

    can-say : (t : M.Order) → Memᴰ (Hold t) s.sent → (T (asked M (M.name t) (s.house (M.name t).home).memory.asking) → ⊥) → (b : Bool) × CanSay M (s.house (M.name t).home) (M.name t) b
    can-say t k un = elim (decide (ruled M (M.name t) (s.house (M.name t).home).file)) [
      | inl r ↦ (true, say_done r)
      | inr r ↦ elim (v.msgs (Hold t) k).1 [ inl l ↦ (false, say_old l r) | inr q ↦ (false, say_over q.1 un r) ]
    ]

    pub answers : (i : ℕ) (t : M.Order) → Memᴰ t (holding M [] (s.house i).file) →
        ((M.name t).home < n) ×
        (((a : Asking M) × Memᴰ a (s.house (M.name t).home).memory.asking × (a.order ≡ t)) ⊎ ((b : Bool) × CanSay M (s.house (M.name t).home) (M.name t) b))
    answers i t m =
        let k = known i t m in (
          (v.msgs (Hold t) k).0,
          elim (decide (asked M (M.name t) (s.house (M.name t).home).memory.asking)) [
            | inl h ↦ let w = mem-of-asked M (s.house (M.name t).home).memory.asking (M.name t) h in
                inl (w.0, w.1, v.once w.0.order t (v.asks (M.name t).home w.0 w.1).known k w.2)
            | inr h ↦ inr (can-say t k h)
          ],
        )

    pub whole : Whole M n s
    whole = record { serial = v.serial; shelves = λ i. (full M L n s v i).level }

    -- what is held back fits
    pub fits : (i : ℕ) → L.Fit i (holding M [] (s.house i).file) (stock M i (s.house i).file)
    fits i = (full M L n s v i).fits

pub sound : Sound
sound M L n s p = whole M L n s p
