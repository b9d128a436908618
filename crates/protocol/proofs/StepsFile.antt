-- Steps that change a house's file.
use mathlib.Core.Path.{◌≡◌, refl, sym, ◌∙◌, ap, subst, subst⁻¹}
use mathlib.Core.Logic.{inl, inr}
use mathlib.Core.Bool.{Bool, true, false, cond, ◌&&◌, not}
use mathlib.Core.List.{List, [], ◌∷◌, ◌++◌, Memᴰ}
use Prim.Native.Nat.{ℕ, ◌+◌, ◌≤◌}
use native.Mathlib.Omega.{arith}
use lib.Dec.{T, T_not}
use lib.ListN.{take}
use Rattle.protocol.specs.declared.Name.{Name}
use Rattle.protocol.specs.Model.{Model, played_all, admits}
use Rattle.protocol.specs.Laws.{Laws}
use Rattle.protocol.specs.House.{Rec, Began, Held, Done, Dropped, starts, hold_next, holding, done_of, stock_next, stock, is_in, ever_held, may_hold, without}
use Rattle.protocol.specs.Net.{Asking, House, Msg, Hold, Yes, Told, Net, at, wrote, synced, restarted}
use Rattle.protocol.specs.Sound.{settle}
use Rattle.protocol.proofs.Basics.{and_l, and_r, snoc-last, snoc_old, snoc-cases}
use Rattle.protocol.proofs.Held.{distinct_snoc, Distinct, mem-of-in, starts-snoc, holding-snoc, stock-snoc, ever-of-mem, ever-of-in, held-of-holding, distinct_without}
use Rattle.protocol.proofs.Settle.{settle-more, settle-finish, settle-leave, done-one}
use Rattle.protocol.proofs.Asks.{about, OnceAsked}
use Rattle.protocol.proofs.Inv.{Inv, change, Past, MsgOk, RecOk, AskOk, Good, Hard, kept_full, kept-all, kept-wrote, kept-added, length-snoc, at_here, new-hold, new-no, ask-more, rec-more, known_more}

module _ (M : Model) where
  pub past_same : (h h' : House M) (d : Name) → starts M h'.file ≡ starts M h.file → h'.memory.tried ≡ h.memory.tried → Past h d → Past h' d
  past_same h h' d e q (inl l) = inl (omega arith)
  past_same h h' d e q (inr r) = inr (r.0 ∙ sym e, subst⁻¹ (λ (x : Name → Bool). T (x d)) q r.1)

  pub ask-start : (ms : List (Msg M)) (ds : List M.Order) (j b c : ℕ) (a : Asking M) → c ≡ b → AskOk M ms ds j b a → AskOk M ms ds j c a
  ask-start ms ds j b c a e k = subst⁻¹ (λ (x : ℕ). AskOk M ms ds j x a) e k

module _ (M : Model) (L : Laws M) where
  -- a file that ends in r
  pub good-snoc : (ds : List M.Order) (j : ℕ) (f : List (Rec M)) (r : Rec M) → Distinct M (hold_next M r (holding M [] f)) →
      L.Fit j (hold_next M r (holding M [] f)) (stock_next M j r (holding M [] f) (stock M j f)) →
      settle M j ds (hold_next M r (holding M [] f)) (stock_next M j r (holding M [] f) (stock M j f)) ≡ played_all M (λ i. M.empty) ds j →
      Good M L ds j (f ++ (r ∷ [])) (f ++ (r ∷ []))
  good-snoc ds j f r q g l = record {
    began = refl;
    hard = λ x h k. k;
    within = λ x k. k;
    apart = rw (holding-snoc M f r) q;
    fits = rw (holding-snoc M f r, stock-snoc M j f r) g;
    level = rw (holding-snoc M f r, stock-snoc M j f r) l;
  }

  -- the same file, with a soft record after the whole
  pub good_more : (ds : List M.Order) (j : ℕ) (full f : List (Rec M)) (r : Rec M) → (Hard r → ⊥) → starts M (full ++ (r ∷ [])) ≡ starts M full → Good M L ds j full f → Good M L ds j (full ++ (r ∷ [])) f
  good_more ds j full f r s e g = record {
    began = g.began ∙ sym e;
    hard = λ x h k. elim (snoc-cases full r x k) [ inl o ↦ g.hard x h o | inr p ↦ absurd (s (subst (λ (y : Rec M). Hard y) p h)) ];
    within = λ x k. snoc_old full r x (g.within x k);
    apart = g.apart;
    fits = g.fits;
    level = g.level;
  }

module _ (M : Model) (L : Laws M) (n : ℕ) (s : Net M) (v : Inv M L n s) where
  pub full : (j : ℕ) → Good M L s.done j (s.house j).file (s.house j).file
  full j = v.good j (s.house j).file (kept_full M (s.house j))

  module _ (i : ℕ) (t : M.Order) (kn : Memᴰ (Hold t) s.sent) (may : T (may_hold M i t (s.house i).file)) where
    abbrev f : List (Rec M)
    f = (s.house i).file

    is-party : T (M.party i t)
    is-party = and_l (M.party i t) (not (ever_held M (M.name t) f)) (and_l (M.party i t && not (ever_held M (M.name t) f)) (admits M i t (holding M [] f) (stock M i f)) may)

    never : T (ever_held M (M.name t) f) → ⊥
    never = T_not (ever_held M (M.name t) f) (and_r (M.party i t) (not (ever_held M (M.name t) f)) (and_l (M.party i t && not (ever_held M (M.name t) f)) (admits M i t (holding M [] f) (stock M i f)) may))

    admitted : T (admits M i t (holding M [] f) (stock M i f))
    admitted = and_r (M.party i t && not (ever_held M (M.name t) f)) (admits M i t (holding M [] f) (stock M i f)) may

    undone : T (is_in M (M.name t) s.done) → ⊥
    undone h =
        let w = mem-of-in M (M.name t) s.done h in
        let e = v.once w.0 t (v.dones w.0 w.1).known kn w.2 in
        never (subst (λ (x : Name). T (ever_held M x f)) w.2 (ever-of-mem M f w.0 ((v.dones w.0 w.1).held i (subst⁻¹ (λ (x : M.Order). T (M.party i x)) e is-party))))

    abbrev holds : House M
    holds = wrote M (Held t) true (s.house i)

    held-good : Good M L s.done i (f ++ (Held t ∷ [])) (f ++ (Held t ∷ []))
    unfolding Distinct
    held-good = good-snoc M L s.done i f (Held t)
        (distinct_snoc M (holding M [] f) t (full i).apart (λ h. never (ever-of-in M f (M.name t) h)))
        (L.join i t (holding M [] f) (stock M i f) (full i).fits admitted)
        (settle-more M i s.done (holding M [] f) t (stock M i f) undone ∙ (full i).level)

    same : starts M (f ++ (Held t ∷ [])) ≡ starts M f
    same = omega (arith, starts-snoc M f (Held t))

    yes-msg : MsgOk n (at M i holds s.house) s.done (Yes i (M.name t))
    yes-msg = (t, refl, subst⁻¹ (λ (x : House M). Memᴰ (Held t) x.file) (at_here M i holds s.house) (snoc-last f (Held t)))

    pub hold-keeps : Inv M L n (record { house = at M i holds s.house; sent = Yes i (M.name t) ∷ s.sent; done = s.done })
    hold-keeps = change M L n s i holds (Yes i (M.name t) ∷ s.sent) v (record {
      more = λ m x. mathlib.Core.List.Memᴰ.tail x;
      fresh = λ m x. elim (mathlib.Core.List.Memᴰ.cases_cons x) [ inl e ↦ inr (subst⁻¹ (λ (x : Msg M). MsgOk n (at M i holds s.house) s.done x) e yes-msg) | inr r ↦ inl r ];
      once = λ a u p q e. elim (new-hold M (Yes i (M.name t)) s.sent a p) [
        | inl x ↦ absurd x
        | inr x ↦
            elim (new-hold M (Yes i (M.name t)) s.sent u q) [ inl z ↦ absurd z | inr z ↦ v.once a u x z e ]
      ];
      nos = λ j c e m x. elim (new-no M (Yes i (M.name t)) s.sent (about M c) x) [ inl z ↦ absurd z | inr z ↦ z ];
      past = λ d x. past_same M (s.house i) holds d same refl x;
      hard = λ r g x. snoc_old f (Held t) r x;
      recs = λ r x. elim (snoc-cases f (Held t) r x) [
        | inl o ↦ rec-more M s.sent (Yes i (M.name t) ∷ s.sent) s.done i r (λ m z. mathlib.Core.List.Memᴰ.tail z) (v.recs i r o)
        | inr e ↦ subst⁻¹ (λ (y : Rec M). RecOk (Yes i (M.name t) ∷ s.sent) s.done i y) e (mathlib.Core.List.Memᴰ.tail kn, is-party)
      ];
      asks = λ c x. ask-start M (Yes i (M.name t) ∷ s.sent) s.done i _ _ c same (ask-more M s.sent (Yes i (M.name t) ∷ s.sent) s.done i _ c (λ m z. mathlib.Core.List.Memᴰ.tail z)
          (λ z. elim (new-no M (Yes i (M.name t)) s.sent (about M c) z) [ inl g ↦ absurd g | inr g ↦ g ]) (v.asks i c x));
      ask_once = v.ask_once i;
      tries = λ d x. known_more M s.sent _ d (λ m z. mathlib.Core.List.Memᴰ.tail z) (v.tries i d x);
      good = λ g k. subst⁻¹ (λ (x : List (Rec M)). Good M L s.done i (f ++ (Held t ∷ [])) x) (kept-wrote M (s.house i) (Held t) g k) held-good;
    })

  module _ (i : ℕ) (d : Name) where
    abbrev g : List (Rec M)
    g = (s.house i).file

    -- a soft record is added
    added : (r : Rec M) → (Hard r → ⊥) → starts M (g ++ (r ∷ [])) ≡ starts M g → RecOk s.sent s.done i r → Good M L s.done i (g ++ (r ∷ [])) (g ++ (r ∷ [])) →
        Inv M L n (record { house = at M i (wrote M r false (s.house i)) s.house; sent = s.sent; done = s.done })
    added r soft e ok gd = change M L n s i (wrote M r false (s.house i)) s.sent v (record {
      more = λ m x. x;
      fresh = λ m x. inl x;
      once = v.once;
      nos = λ j a q m k. k;
      past = λ c x. past_same M (s.house i) (wrote M r false (s.house i)) c e refl x;
      hard = λ x h k. snoc_old g r x k;
      recs = λ x k. elim (snoc-cases g r x k) [ inl o ↦ v.recs i x o | inr p ↦ subst⁻¹ (λ (y : Rec M). RecOk s.sent s.done i y) p ok ];
      asks = λ c x. ask-start M s.sent s.done i _ _ c e (v.asks i c x);
      ask_once = v.ask_once i;
      tries = v.tries i;
      good = λ x k. elim (kept-added M (s.house i) r x k) [
        | inl o ↦ good_more M L s.done i g x r soft e (v.good i x o)
        | inr p ↦ subst⁻¹ (λ (y : List (Rec M)). Good M L s.done i (g ++ (r ∷ [])) y) p gd
      ];
    })

    pub learn-keeps : (b : Bool) → Memᴰ (Told d b) s.sent → T (is_in M d (holding M [] g)) →
        Inv M L n (record { house = at M i (wrote M (cond b (Done d) (Dropped d)) false (s.house i)) s.house; sent = s.sent; done = s.done })
    learn-keeps true k h =
        let w = mem-of-in M d (holding M [] g) h in
        let one : done_of M i d (holding M [] g) (stock M i g) ≡ M.do_here i w.0 (stock M i g) =
        subst (λ (x : Name). done_of M i x (holding M [] g) (stock M i g) ≡ M.do_here i w.0 (stock M i g)) w.2 (done-one M i w.0 (holding M [] g) (stock M i g) (full i).apart w.1) in
        let is_done : T (is_in M d s.done) = v.msgs (Told d true) k in
        added (Done d) (λ x. x) (omega (arith, starts-snoc M g (Done d))) is_done
        (good-snoc M L s.done i g (Done d) (distinct_without M (holding M [] g) d (full i).apart)
        (subst⁻¹ (λ (x : M.Shelves). L.Fit i (without M d (holding M [] g)) x) one
        (subst (λ (x : Name). L.Fit i (without M x (holding M [] g)) (M.do_here i w.0 (stock M i g))) w.2 (L.finish i w.0 (holding M [] g) (stock M i g) (full i).fits w.1)))
        (ap (λ (x : M.Shelves). settle M i s.done (without M d (holding M [] g)) x) one
        ∙ ap (λ (x : Name). settle M i s.done (without M x (holding M [] g)) (M.do_here i w.0 (stock M i g))) (sym w.2)
        ∙ sym (settle-finish M L i s.done (holding M [] g) w.0 (stock M i g) (full i).apart (full i).fits w.1 (subst⁻¹ (λ (x : Name). T (is_in M x s.done)) w.2 is_done))
        ∙ (full i).level))
    learn-keeps false k h =
        added (Dropped d) (λ x. x) (omega (arith, starts-snoc M g (Dropped d))) k
        (good-snoc M L s.done i g (Dropped d) (distinct_without M (holding M [] g) d (full i).apart)
        (L.leave i d (holding M [] g) (stock M i g) (full i).fits)
        (sym (settle-leave M L i s.done (holding M [] g) d (stock M i g) (v.msgs (Told d false) k).0) ∙ (full i).level))

    pub sync-keeps : Inv M L n (record { house = at M i (synced M (s.house i)) s.house; sent = s.sent; done = s.done })
    sync-keeps = change M L n s i (synced M (s.house i)) s.sent v (record {
      more = λ m x. x;
      fresh = λ m x. inl x;
      once = v.once;
      nos = λ j a q m k. k;
      past = λ c x. x;
      hard = λ x h k. k;
      recs = v.recs i;
      asks = v.asks i;
      ask_once = v.ask_once i;
      tries = v.tries i;
      good = λ x k. subst⁻¹ (λ (y : List (Rec M)). Good M L s.done i g y) (kept-all M (synced M (s.house i)) (omega arith) x k) (full i);
    })

  module _ (i k : ℕ) (le : (s.house i).durable ≤ k) where
    abbrev cut : List (Rec M)
    cut = take k (s.house i).file

    here : Good M L s.done i (s.house i).file cut
    here = v.good i cut (k, le, refl)

    later : starts M (cut ++ (Began ∷ [])) ≡ starts M (s.house i).file + 1
    later = omega (arith, starts-snoc M cut Began, here.began)

    stop-past : (d : Name) → Past (s.house i) d → Past (restarted M k (s.house i)) d
    stop-past d (inl l) = inl (omega (arith, later))
    stop-past d (inr r) = inl (omega (arith, later, r.0))

    pub stop-keeps : Inv M L n (record { house = at M i (restarted M k (s.house i)) s.house; sent = s.sent; done = s.done })
    unfolding OnceAsked
    stop-keeps = change M L n s i (restarted M k (s.house i)) s.sent v (record {
      more = λ m x. x;
      fresh = λ m x. inl x;
      once = v.once;
      nos = λ j a q m x. x;
      past = stop-past;
      hard = λ x h m. snoc_old cut Began x (here.hard x h m);
      recs = λ x m. elim (snoc-cases cut Began x m) [ inl o ↦ v.recs i x (here.within x o) | inr p ↦ subst⁻¹ (λ (y : Rec M). RecOk s.sent s.done i y) p tt ];
      asks = λ a m. elim m [ ];
      ask_once = tt;
      tries = λ t m. elim m [ ];
      good = λ x m. subst⁻¹ (λ (y : List (Rec M)). Good M L s.done i (cut ++ (Began ∷ [])) y) (kept-all M (restarted M k (s.house i)) (omega (arith, length-snoc M cut Began)) x m)
          (good-snoc M L s.done i cut Began here.apart here.fits here.level);
    })

  -- what was sent once may be sent again
  pub resend-keeps : (m : Msg M) → Memᴰ m s.sent → Inv M L n (record { house = s.house; sent = m ∷ s.sent; done = s.done })
  resend-keeps m k =
      let less : (x : Msg M) → Memᴰ x (m ∷ s.sent) → Memᴰ x s.sent =
      λ x p. elim (mathlib.Core.List.Memᴰ.cases_cons p) [ inl e ↦ subst⁻¹ (λ (y : Msg M). Memᴰ y s.sent) e k | inr r ↦ r ] in
      record {
        once = λ t u p q e. v.once t u (less _ p) (less _ q) e;
        msgs = λ x p. v.msgs x (less x p);
        dones = λ t p. let w = v.dones t p in record { known = mathlib.Core.List.Memᴰ.tail w.known; on_file = w.on_file; held = w.held };
        serial = v.serial;
        recs = λ j r p. rec-more M s.sent (m ∷ s.sent) s.done j r (λ x z. mathlib.Core.List.Memᴰ.tail z) (v.recs j r p);
        asks = λ j a p. ask-more M s.sent (m ∷ s.sent) s.done j _ a (λ x z. mathlib.Core.List.Memᴰ.tail z) (less _) (v.asks j a p);
        ask_once = v.ask_once;
        tries = λ j d p. known_more M s.sent _ d (λ m x. mathlib.Core.List.Memᴰ.tail x) (v.tries j d p);
        good = v.good;
      }

  -- a house that holds an order back may say yes
  pub yes-keeps : (i : ℕ) (d : Name) → T (is_in M d (holding M [] (s.house i).file)) → Inv M L n (record { house = s.house; sent = Yes i d ∷ s.sent; done = s.done })
  yes-keeps i d h =
      let w = mem-of-in M d (holding M [] (s.house i).file) h in
      let held : Memᴰ (Held w.0) (s.house i).file = held-of-holding M (s.house i).file w.0 w.1 in
      record {
        once = λ t u p q e. elim (new-hold M (Yes i d) s.sent t p) [
          | inl x ↦ absurd x
          | inr x ↦ elim (new-hold M (Yes i d) s.sent u q) [ inl z ↦ absurd z | inr z ↦ v.once t u x z e ]
        ];
        msgs = λ x p. elim (mathlib.Core.List.Memᴰ.cases_cons p) [ inl e ↦ subst⁻¹ (λ (y : Msg M). MsgOk n s.house s.done y) e (w.0, w.2, held) | inr r ↦ v.msgs x r ];
        dones = λ t p. let z = v.dones t p in record { known = mathlib.Core.List.Memᴰ.tail z.known; on_file = z.on_file; held = z.held };
        serial = v.serial;
        recs = λ j r p. rec-more M s.sent (Yes i d ∷ s.sent) s.done j r (λ x z. mathlib.Core.List.Memᴰ.tail z) (v.recs j r p);
        asks = λ j a p. ask-more M s.sent (Yes i d ∷ s.sent) s.done j _ a (λ x z. mathlib.Core.List.Memᴰ.tail z)
            (λ z. elim (new-no M (Yes i d) s.sent (about M a) z) [ inl g ↦ absurd g | inr g ↦ g ]) (v.asks j a p);
        ask_once = v.ask_once;
        tries = λ j d p. known_more M s.sent _ d (λ m x. mathlib.Core.List.Memᴰ.tail x) (v.tries j d p);
        good = v.good;
      }
