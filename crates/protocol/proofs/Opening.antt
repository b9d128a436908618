-- Every file of a reachable network opens.
use mathlib.Core.Path.{subst, subst⁻¹}
use mathlib.Core.Bool.{Bool, true, false, cond}
use mathlib.Core.List.{List, [], ◌∷◌, ◌++◌, Memᴰ}
use Prim.Native.Nat.{ℕ, zero, suc, ◌<◌}
use native.Mathlib.Omega.{arith}
use lib.Dec.{T, not_T, eqb, eqb_refl, ltb, lt→ltb}
use lib.ListN.{take}
use Rattle.protocol.specs.declared.Name.{Name}
use Rattle.protocol.specs.Model.{Model}
use Rattle.protocol.specs.Laws.{Laws}
use Rattle.protocol.specs.House.{Rec, Began, Held, Done, Dropped, Ruled, starts, holding, ruled, is_in, may_hold}
use Rattle.protocol.specs.Net.{Asking, House, Net, at, Step, submit, hold, vote, rule, give_up, answer, learn, sync, stop, yes_again, again, Reach, begin, then}
use Rattle.protocol.specs.State.{State, state_of, empty_state, apply, replay, lawful, within_limits, all_lawful, all_within}
use Rattle.protocol.specs.Opens.{LawfulAt}
use Rattle.protocol.proofs.Basics.{and_l, and_r, and_both}
use Rattle.protocol.proofs.Inv.{Inv, at_all}
use Rattle.protocol.proofs.Held.{starts-snoc, in-of-mem, mem-of-ruled}
use Rattle.protocol.proofs.Reached.{reach-keeps}
use Rattle.protocol.proofs.Replays.{state-opened}

-- a test of each record against the state before it
module _ (M : Model) (i : ℕ) where
  pub lawful-snoc : (f : List (Rec M)) (r : Rec M) (v : State M) → T (all_lawful M i f v) → T (lawful M i r (replay M i f v)) → T (all_lawful M i (f ++ (r ∷ [])) v)
  unfolding all_lawful replay
  lawful-snoc [] r v a b = and_both (lawful M i r v) true b tt
  lawful-snoc (x ∷ f) r v a b = and_both (lawful M i x v) _ (and_l (lawful M i x v) _ a) (lawful-snoc f r (apply M i x v) (and_r (lawful M i x v) _ a) b)

  pub lawful-take : (k : ℕ) (f : List (Rec M)) (v : State M) → T (all_lawful M i f v) → T (all_lawful M i (take k f) v)
  unfolding all_lawful
  lawful-take zero f v a = tt
  lawful-take (suc k) [] v a = tt
  lawful-take (suc k) (x ∷ f) v a = and_both (lawful M i x v) _ (and_l (lawful M i x v) _ a) (lawful-take k f (apply M i x v) (and_r (lawful M i x v) _ a))

  pub within-snoc : (f : List (Rec M)) (r : Rec M) (v : State M) → T (all_within M i f v) → T (within_limits M r (replay M i f v)) → T (all_within M i (f ++ (r ∷ [])) v)
  unfolding all_within replay
  within-snoc [] r v a b = and_both (within_limits M r v) true b tt
  within-snoc (x ∷ f) r v a b = and_both (within_limits M x v) _ (and_l (within_limits M x v) _ a) (within-snoc f r (apply M i x v) (and_r (within_limits M x v) _ a) b)

  pub within-take : (k : ℕ) (f : List (Rec M)) (v : State M) → T (all_within M i f v) → T (all_within M i (take k f) v)
  unfolding all_within
  within-take zero f v a = tt
  within-take (suc k) [] v a = tt
  within-take (suc k) (x ∷ f) v a = and_both (within_limits M x v) _ (and_l (within_limits M x v) _ a) (within-take k f (apply M i x v) (and_r (within_limits M x v) _ a))

  -- a file that began, each of whose records may stand behind those before it
  pub record Begun (f : List (Rec M)) : Type 0 where
    pub some : 0 < starts M f
    pub all : T (all_lawful M i f (empty_state M))

  pub extend : (f : List (Rec M)) (r : Rec M) → Begun f → T (lawful M i r (state_of M i f)) → Begun (f ++ (r ∷ []))
  extend f r b l = record {
    some = omega (arith, b.some, starts-snoc M f r);
    all = lawful-snoc f r (empty_state M) b.all (subst (λ (v : State M). T (lawful M i r v)) (state-opened M i f) l);
  }

module _ (M : Model) (L : Laws M) (n : ℕ) where
  Files : Net M → Type 0
  Files s = (j : ℕ) → Begun M j (s.house j).file

  -- only house i's file changes
  files-at : (s : Net M) (i : ℕ) (h : House M) → Files s → Begun M i h.file → (j : ℕ) → Begun M j (at M i h s.house j).file
  unfolding Files
  files-at s i h b c = at_all M (λ j x. Begun M j x.file) i h s.house c (λ j e. b j)

  began-true : (f : List (Rec M)) → 0 < starts M f → T (ltb 0 (starts M f))
  began-true f l = lt→ltb 0 (starts M f) l

  hold_lawful : (i : ℕ) (f : List (Rec M)) (t : M.Order) → 0 < starts M f → T (may_hold M i t f) → T (lawful M i (Held t) (state_of M i f))
  hold_lawful i f t l may = and_both (ltb 0 (starts M f)) _ (began-true f l) may

  learn-lawful : (i : ℕ) (f : List (Rec M)) (d : Name) (b : Bool) → 0 < starts M f → T (is_in M d (holding M [] f)) → T (lawful M i (cond b (Done d) (Dropped d)) (state_of M i f))
  learn-lawful i f d true l k = and_both (ltb 0 (starts M f)) _ (began-true f l) k
  learn-lawful i f d false l k = and_both (ltb 0 (starts M f)) _ (began-true f l) k

  -- an order that is asked about isn't ruled yet
  rule-lawful : (s : Net M) → Inv M L n s → (i : ℕ) (a : Asking M) → Memᴰ a (s.house i).memory.asking → 0 < starts M (s.house i).file →
      T (lawful M i (Ruled a.order) (state_of M i (s.house i).file))
  rule-lawful s v i a k l =
      let f = (s.house i).file in
      let ok = v.asks i a k in
      let new : T (ruled M (M.name a.order) f) → ⊥ = λ r.
      let w = mem-of-ruled M f (M.name a.order) r in
      ok.unruled (in-of-mem M (M.name a.order) w.0 s.done (v.recs i (Ruled w.0) w.1) w.2) in
      and_both (ltb 0 (starts M f)) _ (began-true f l) (and_both (eqb (M.name a.order).home i) _ (subst⁻¹ (λ (x : ℕ). T (eqb x i)) ok.home (eqb_refl i)) (not_T (ruled M (M.name a.order) f) new))

  step-files : (s t : Net M) → Inv M L n s → Files s → Step M n s t → Files t
  unfolding Files files-at
  step-files s t v b (submit _ i _ o _ _ _ _) = files-at s i _ b (b i)
  step-files s t v b (hold _ i _ o k may) = files-at s i _ b (extend M i (s.house i).file (Held o) (b i) (hold_lawful i (s.house i).file o (b i).some may))
  step-files s t v b (vote _ i j _ d k) = files-at s i _ b (b i)
  step-files s t v b (rule _ i _ a k all) = files-at s i _ b (extend M i (s.house i).file (Ruled a.order) (b i) (rule-lawful s v i a k (b i).some))
  step-files s t v b (give_up _ i _ a k) = files-at s i _ b (b i)
  step-files s t v b (answer _ i _ d e c say) = b
  step-files s t v b (learn _ i _ d c k h) = files-at s i _ b (extend M i (s.house i).file (cond c (Done d) (Dropped d)) (b i) (learn-lawful i (s.house i).file d c (b i).some h))
  step-files s t v b (sync _ i _) = files-at s i _ b (b i)
  step-files s t v b (stop _ i _ k l) = files-at s i _ b (record {
    some = omega (arith, starts-snoc M (take k (s.house i).file) Began);
    all = lawful-snoc M i (take k (s.house i).file) Began (empty_state M) (lawful-take M i k (s.house i).file (empty_state M) (b i).all) tt;
  })
  step-files s t v b (yes_again _ i _ d h) = b
  step-files s t v b (again _ m k) = b

  reach-files : (s : Net M) → Reach M n s → Files s
  unfolding Files starts all_lawful
  reach-files s begin = λ j. record { some = omega arith; all = tt }
  reach-files s (then {s = r} p q) = step-files r s (reach-keeps M L n r p) (reach-files r p) q

pub lawful-at : (M : Model) → Laws M → LawfulAt M
unfolding Files
lawful-at M L n s p i k = lawful-take M i k (s.house i).file (empty_state M) (reach-files M L n s p i).all
