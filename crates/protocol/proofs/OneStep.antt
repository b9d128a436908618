-- A step by itself that is interrupted was not begun, or was done.
use mathlib.Core.Path.{◌≡◌, refl, sym, ◌∙◌, ap, subst}
use mathlib.Core.Logic.{◌⊎◌, inl, inr}
use mathlib.Core.Bool.{Bool, cond}
use mathlib.Core.List.{List, [], ◌∷◌, ◌++◌, append-nil, append_assoc}
use Prim.Native.Nat.{ℕ, zero, suc, ◌+◌, ◌≤◌, ◌<◌}
use native.Mathlib.Omega.{arith}
use native.Mathlib.Decide.{dec_le}
use lib.ListN.{length, take, length-append}
use lib.Seq.{take_all, take-append-le}
use Rattle.protocol.specs.Model.{Model}
use Rattle.protocol.specs.House.{Rec}
use Rattle.protocol.specs.Net.{House, synced, with_memory}
use Rattle.protocol.specs.Plan.{Verdict, does, Work, worked}
use Rattle.protocol.specs.Crash.{Effect, Append, Sync, Remember, Send, Process, appends, sendings, after_appends, effects, advance, written, advance_by, Recoverable, OneStep}
use Rattle.protocol.proofs.Basics.{by_bool}
use Rattle.protocol.proofs.Local.{added_is, Few, few}
use Rattle.protocol.proofs.Matching.{Soft, wrote, in_flight-before, in_flight-soft, soft-sendings}

module _ (M : Model) (h : House M) (w : Work M) where
  data Stage : Process M → Type 0 where
    writing : (rs qs : List (Rec M)) → w.out.adds ≡ rs ++ qs → Stage (record { state = wrote M h rs; pending = appends M qs (after_appends M w) })
    over : (g : House M) (es : List (Effect M)) → Soft M es → g.file ≡ (worked M w h).file → g.durable ≡ (worked M w h).durable → Stage (record { state = g; pending = es })

  -- the last record is written
  file-is : (rs : List (Rec M)) → w.out.adds ≡ rs → h.file ++ rs ≡ (worked M w h).file
  file-is rs e = ap (λ (y : List (Rec M)). h.file ++ y) (sym e) ∙ sym (added_is M w.out.adds h.file)

  proceed-rest : (rs : List (Rec M)) → w.out.adds ≡ rs → Stage (advance M (wrote M h rs) (after_appends M w))
  proceed-rest rs e =
      let es = Remember w.memory ∷ sendings M w.out.sends in
      let f = (worked M w h).file in
      by_bool (λ c. (w.out.syncs ≡ c) → Stage (advance M (wrote M h rs) (cond c (Sync ∷ es) es))) w.out.syncs
      (λ _ q. over (synced M (wrote M h rs)) es (tt, soft-sendings M w.out.sends) (file-is rs e) (ap (λ (y : List (Rec M)). length y) (file-is rs e) ∙ ap (λ (c : Bool). cond c (length f) h.durable) (sym q)))
      (λ _ q. over (with_memory M w.memory (wrote M h rs)) (sendings M w.out.sends) (soft-sendings M w.out.sends) (file-is rs e) (ap (λ (c : Bool). cond c (length f) h.durable) (sym q)))
      refl

  advance-stage : (d : Process M) → Stage d → Stage (advance M d.state d.pending)
  unfolding appends
  advance-stage d (writing rs [] e) = proceed-rest rs (e ∙ append-nil rs)
  advance-stage d (writing rs (q ∷ qs) e) =
      subst (λ (f : List (Rec M)). Stage (record { state = record { file = f; durable = h.durable; memory = h.memory }; pending = appends M qs (after_appends M w) })) (sym (append_assoc h.file rs (q ∷ [])))
      (writing (rs ++ (q ∷ [])) qs (e ∙ sym (append_assoc rs (q ∷ []) qs)))
  advance-stage d (over g [] so a b) = over g [] so a b
  advance-stage d (over g (Append r ∷ es) so a b) = absurd so.0
  advance-stage d (over g (Sync ∷ es) so a b) = absurd so.0
  advance-stage d (over g (Remember m ∷ es) so a b) = over (with_memory M m g) es so.1 a b
  advance-stage d (over g (Send m ∷ es) so a b) = over g es so.1 a b

  stage : (j : ℕ) (d : Process M) → Stage d → Stage (advance_by M j d)
  unfolding advance_by
  stage zero d s = s
  stage (suc j) d s = stage j (advance M d.state d.pending) (advance-stage d s)

  Either : List (Rec M) → Type 0
  Either g = Recoverable M h.durable h.file g ⊎ Recoverable M (worked M w h).durable (worked M w h).file g

  -- all that was written is recovering
  recovered-all : (f g : List (Rec M)) (k : ℕ) → f ≡ (worked M w h).file → g ≡ take k f → length f ≤ k → Recoverable M (worked M w h).durable (worked M w h).file g
  recovered-all f g k e z l =
      let c = (worked M w h).durable + length (worked M w h).file in
      (c, omega arith, z ∙ take_all k f l ∙ e ∙ sym (take_all c (worked M w h).file (omega arith)))

  recovered-one : (rs qs : List (Rec M)) → w.out.adds ≡ rs ++ qs → Few M (does w) → (g : List (Rec M)) (k : ℕ) → h.durable ≤ k → (length h.file < k) → g ≡ take k (h.file ++ rs) → Either g
  unfolding Either
  recovered-one [] qs e f g k l o z = inl (k, l, z ∙ ap (λ (y : List (Rec M)). take k y) (append-nil h.file))
  recovered-one (r ∷ rs) qs e (inl a) g k l o z = let q : ◌≡◌ {A = ℕ} 0 1 = cc in absurd (omega arith)
  recovered-one (r ∷ []) [] e (inr f) g k l o z = inr (recovered-all (h.file ++ (r ∷ [])) g k (file-is (r ∷ []) e) z (omega (arith, length-append h.file (r ∷ []))))
  recovered-one (r ∷ []) (q ∷ qs) e (inr (x, a)) g k l o z = let d : x ∷ [] ≡ r ∷ (q ∷ qs) = sym a ∙ e in let q : ◌≡◌ {A = ℕ} 0 1 = cc in absurd (omega arith)
  recovered-one (r ∷ (s ∷ rs)) qs e (inr (x, a)) g k l o z = let d : x ∷ [] ≡ r ∷ (s ∷ (rs ++ qs)) = sym a ∙ e in let q : ◌≡◌ {A = ℕ} 0 1 = cc in absurd (omega arith)

  finds : Few M (does w) → (d : Process M) → Stage d → (g : List (Rec M)) → Recoverable M d.state.durable (written M d) g → Either g
  unfolding Either
  finds f d (writing rs qs e) g (k, l, z) =
      let p = in_flight-before M h.file w.out.adds rs qs w e in
      let y : g ≡ take k (h.file ++ p.0) = z ∙ ap (λ (y : List (Rec M)). take k y) p.3 in
      elim (dec_le k (length h.file)) [
        | yes a ↦ inl (k, l, y ∙ take-append-le k h.file p.0 a)
        | no a ↦ recovered-one p.0 p.1 p.2 f g k l (omega arith) y
      ]
  finds f d (over x es so a b) g (k, l, z) = inr (k, omega (arith, b), z ∙ ap (λ (y : List (Rec M)). take k y) (ap (λ (y : List (Rec M)). x.file ++ y) (in_flight-soft M es so) ∙ append-nil x.file ∙ a))

  begins : Stage (record { state = h; pending = effects M w })
  begins = subst (λ (f : List (Rec M)). Stage (record { state = record { file = f; durable = h.durable; memory = h.memory }; pending = effects M w })) (append-nil h.file) (writing [] w.out.adds refl)

  pub one : Few M (does w) → (j : ℕ) (g : List (Rec M)) →
      Recoverable M (advance_by M j (record { state = h; pending = effects M w })).state.durable (written M (advance_by M j (record { state = h; pending = effects M w }))) g →
      Recoverable M h.durable h.file g ⊎ Recoverable M (worked M w h).durable (worked M w h).file g
  unfolding Either
  one f j g k = finds f (advance_by M j (record { state = h; pending = effects M w })) (stage j (record { state = h; pending = effects M w }) begins) g k

pub one-step : OneStep
one-step M i x h w e = one M h w (subst (λ (p : Verdict (Work M)). Few M p) e (few M i x h))
