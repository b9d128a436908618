-- Steps of a home that asks.
use mathlib.Core.Path.{◌≡◌, refl, sym, ◌∙◌, ap, subst, subst⁻¹}
use mathlib.Core.Logic.{inl, inr}
use mathlib.Core.Bool.{Bool, true, false, ◌||◌}
use mathlib.Core.List.Memᴰ
use mathlib.Core.List.{[], ◌∷◌, ◌++◌, Memᴰ}
use Prim.Native.Nat.{ℕ, ◌<◌}
use native.Mathlib.Omega.{arith}
use lib.Dec.{T}
use Rattle.protocol.specs.declared.Name.{Name}
use Rattle.protocol.specs.Model.{Model, same_name}
use Rattle.protocol.specs.Laws.{Laws}
use Rattle.protocol.specs.House.{Ruled, starts, is_in, ruled}
use Rattle.protocol.specs.Net.{Asking, House, Msg, Hold, Yes, Told, Net, at, nobody, with_memory, with_asking, voted, drop_ask, CanSay, say_done, say_old, say_over}
use Rattle.protocol.proofs.Basics.{or_l, or_r, or_cases, same-eq, same_refl, snoc-cases}
use Rattle.protocol.proofs.Held.{in-of-mem, mem-of-in, mem-of-ruled, ruled-of-mem}
use Rattle.protocol.proofs.Asks.{about, OnceAsked, mem-of-asked, asked-of-mem, drop-mem, once-drop, voted-mem, once-voted, once-snoc}
use Rattle.protocol.proofs.Inv.{Inv, change, Past, Once, MsgOk, ToldOk, AskOk, at_here, at_self, new-hold, new-no, ask-more, rec-more, past-at, known_more}

module _ (M : Model) (L : Laws M) (n : ℕ) (s : Net M) (v : Inv M L n s) where
  -- one of a name that was given away, and that is known, was given away by its home
  pub known_past : (t : M.Order) → Memᴰ (Hold t) s.sent → (i : ℕ) → (M.name t).home ≡ i → Past (s.house i) (M.name t)
  known_past t k i e = subst (λ (x : ℕ). Past (s.house x) (M.name t)) e (v.msgs (Hold t) k).1

  pub done-known : (d : Name) → T (is_in M d s.done) → (t : M.Order) × Memᴰ (Hold t) s.sent × (M.name t ≡ d)
  done-known d h = let w = mem-of-in M d s.done h in (w.0, (v.dones w.0 w.1).known, w.2)

  module _ (i : ℕ) (b : i < n) (t : M.Order) (eh : (M.name t).home ≡ i) (es : (M.name t).start ≡ starts M (s.house i).file) (new : T ((s.house i).memory.tried (M.name t)) → ⊥) where
    not-past : Past (s.house i) (M.name t) → ⊥
    not-past (inl l) = omega arith
    not-past (inr r) = new r.1

    not_known : (u : M.Order) → Memᴰ (Hold u) s.sent → M.name u ≡ M.name t → ⊥
    not_known u k e = not-past (subst (λ (d : Name). Past (s.house i) d) e (known_past u k i (ap (λ (d : Name). d.home) e ∙ eh)))

    not-denied : Memᴰ (Told (M.name t) false) s.sent → ⊥
    not-denied k = not-past (subst (λ (x : ℕ). Past (s.house x) (M.name t)) eh (v.msgs (Told (M.name t) false) k).1)

    abbrev submitted : House M
    submitted = with_memory M (record { asking = (s.house i).memory.asking ++ (record { order = t; yes = nobody M } ∷ []); tried = λ d. same_name d (M.name t) || (s.house i).memory.tried d }) (s.house i)

    submit-once : Once (Hold t ∷ s.sent)
    submit-once a c p q e = elim (new-hold M (Hold t) s.sent a p) [
      | inl x ↦ elim (new-hold M (Hold t) s.sent c q) [ inl y ↦ x ∙ sym y | inr y ↦ absurd (not_known c y (sym e ∙ ap M.name x)) ]
      | inr x ↦ elim (new-hold M (Hold t) s.sent c q) [ inl y ↦ absurd (not_known a x (e ∙ ap M.name y)) | inr y ↦ v.once a c x y e ]
    ]

    submit-past : (d : Name) → Past (s.house i) d → Past submitted d
    submit-past d (inl l) = inl l
    submit-past d (inr r) = inr (r.0, or_r (same_name d (M.name t)) _ r.1)

    submit-msg : MsgOk n (at M i submitted s.house) s.done (Hold t)
    submit-msg = (
      subst⁻¹ (λ (x : ℕ). x < n) eh b,
      subst⁻¹ (λ (x : ℕ). Past (at M i submitted s.house x) (M.name t)) eh
          (subst⁻¹ (λ (x : House M). Past x (M.name t)) (at_here M i submitted s.house) (inr (es, or_l _ _ (same_refl (M.name t))))),
    )

    submit-new : AskOk M (Hold t ∷ s.sent) s.done i (starts M (s.house i).file) (record { order = t; yes = nobody M })
    submit-new = record {
      known = Memᴰ.head refl;
      home = eh;
      start = es;
      yeses = λ j k. elim k [ ];
      unruled = λ h. let w = done-known (M.name t) h in not_known w.0 w.1 w.2;
      undenied = λ k. elim (new-no M (Hold t) s.sent (M.name t) k) [ inl x ↦ x | inr x ↦ not-denied x ];
    }

    submit-asks : (a : Asking M) → Memᴰ a submitted.memory.asking → AskOk M (Hold t ∷ s.sent) s.done i (starts M (s.house i).file) a
    submit-asks a k = elim (snoc-cases (s.house i).memory.asking (record { order = t; yes = nobody M }) a k) [
      | inr e ↦ subst⁻¹ (λ (x : Asking M). AskOk M (Hold t ∷ s.sent) s.done i (starts M (s.house i).file) x) e submit-new
      | inl r ↦ ask-more M s.sent (Hold t ∷ s.sent) s.done i _ a (λ m x. Memᴰ.tail x)
          (λ x. elim (new-no M (Hold t) s.sent (about M a) x) [ inl y ↦ absurd y | inr y ↦ y ]) (v.asks i a r)
    ]

    submit-ask_once : OnceAsked M submitted.memory.asking
    submit-ask_once = once-snoc M (s.house i).memory.asking _ (v.ask_once i) (λ h. let w = mem-of-asked M (s.house i).memory.asking (M.name t) h in not_known w.0.order (v.asks i w.0 w.1).known w.2)

    pub submit-keeps : Inv M L n (record { house = at M i submitted s.house; sent = Hold t ∷ s.sent; done = s.done })
    submit-keeps = change M L n s i submitted (Hold t ∷ s.sent) v (record {
      more = λ m k. Memᴰ.tail k;
      fresh = λ m k. elim (Memᴰ.cases_cons k) [ inl e ↦ inr (subst⁻¹ (λ (x : Msg M). MsgOk n (at M i submitted s.house) s.done x) e submit-msg) | inr r ↦ inl r ];
      once = submit-once;
      nos = λ j a e m k. elim (new-no M (Hold t) s.sent (about M a) k) [ inl x ↦ absurd x | inr x ↦ x ];
      past = submit-past;
      hard = λ r g k. k;
      recs = λ r k. rec-more M s.sent (Hold t ∷ s.sent) s.done i r (λ m x. Memᴰ.tail x) (v.recs i r k);
      asks = submit-asks;
      ask_once = submit-ask_once;
      tries = λ d k. elim (or_cases (same_name d (M.name t)) ((s.house i).memory.tried d) k) [ inl e ↦ (t, Memᴰ.head refl, sym (same-eq d (M.name t) e)) | inr r ↦ known_more M s.sent _ d (λ m x. Memᴰ.tail x) (v.tries i d r) ];
      good = λ f k. v.good i f k;
    })

  module _ (i j : ℕ) (d : Name) (y : Memᴰ (Yes j d) s.sent) where
    abbrev voting : House M
    voting = with_asking M (voted M j d (s.house i).memory.asking) (s.house i)

    vote-asks : (a : Asking M) → Memᴰ a voting.memory.asking → AskOk M s.sent s.done i (starts M (s.house i).file) a
    vote-asks a k =
        let w = voted-mem M j d (s.house i).memory.asking a k in
        let q = v.asks i w.0 w.1 in
        subst⁻¹ (λ (o : M.Order). AskOk M s.sent s.done i (starts M (s.house i).file) (record { order = o; yes = a.yes })) w.2 (record {
          known = q.known;
          home = q.home;
          start = q.start;
          yeses = λ x p. elim (w.3 x p) [
            | inl z ↦ q.yeses x z
            | inr z ↦ subst⁻¹ (λ (u : ℕ). Memᴰ (Yes u (about M w.0)) s.sent) z.0 (subst⁻¹ (λ (u : Name). Memᴰ (Yes j u) s.sent) z.1 y)
          ];
          unruled = q.unruled;
          undenied = q.undenied;
        })

    pub vote-keeps : Inv M L n (record { house = at M i voting s.house; sent = s.sent; done = s.done })
    vote-keeps = change M L n s i voting s.sent v (record {
      more = λ m k. k;
      fresh = λ m k. inl k;
      once = v.once;
      nos = λ j a e m k. k;
      past = λ e k. k;
      hard = λ r g k. k;
      recs = v.recs i;
      asks = vote-asks;
      ask_once = once-voted M j d (s.house i).memory.asking (v.ask_once i);
      tries = v.tries i;
      good = λ f k. v.good i f k;
    })

  module _ (i : ℕ) (a : Asking M) (k : Memᴰ a (s.house i).memory.asking) where
    abbrev resting : House M
    resting = with_asking M (drop_ask M (about M a) (s.house i).memory.asking) (s.house i)

    no-msg : MsgOk n (at M i resting s.house) s.done (Told (about M a) false)
    no-msg = ((v.asks i a k).unruled, past-at M L n s i resting (λ d x. x) (about M a).home (about M a) (v.msgs (Hold a.order) (v.asks i a k).known).1)

    pub give_up-keeps : Inv M L n (record { house = at M i resting s.house; sent = Told (about M a) false ∷ s.sent; done = s.done })
    give_up-keeps = change M L n s i resting (Told (about M a) false ∷ s.sent) v (record {
      more = λ m x. Memᴰ.tail x;
      fresh = λ m x. elim (Memᴰ.cases_cons x) [ inl e ↦ inr (subst⁻¹ (λ (x : Msg M). MsgOk n (at M i resting s.house) s.done x) e no-msg) | inr r ↦ inl r ];
      once = λ t u p q e. elim (new-hold M (Told (about M a) false) s.sent t p) [
        | inl x ↦ absurd x
        | inr x ↦
            elim (new-hold M (Told (about M a) false) s.sent u q) [ inl z ↦ absurd z | inr z ↦ v.once t u x z e ]
      ];
      nos = λ j c e m x. elim (new-no M (Told (about M a) false) s.sent (about M c) x) [
        | inl z ↦ absurd (e (sym (v.asks j c m).home ∙ ap (λ (d : Name). d.home) z.0 ∙ (v.asks i a k).home))
        | inr z ↦ z
      ];
      past = λ e x. x;
      hard = λ r g x. x;
      recs = λ r x. rec-more M s.sent (Told (about M a) false ∷ s.sent) s.done i r (λ m z. Memᴰ.tail z) (v.recs i r x);
      asks = λ c x. let w = drop-mem M (s.house i).memory.asking (about M a) c (v.ask_once i) x in
          ask-more M s.sent (Told (about M a) false ∷ s.sent) s.done i _ c (λ m z. Memᴰ.tail z)
          (λ z. elim (new-no M (Told (about M a) false) s.sent (about M c) z) [ inl g ↦ absurd (w.1 g.0) | inr g ↦ g ]) (v.asks i c w.0);
      ask_once = once-drop M (s.house i).memory.asking (about M a) (v.ask_once i);
      tries = λ d x. known_more M s.sent _ d (λ m z. Memᴰ.tail z) (v.tries i d x);
      good = λ f x. v.good i f x;
    })

  module _ (i : ℕ) (d : Name) (eh : d.home ≡ i) where
    -- what may be told without a change of any house
    pub told-keeps : (b : Bool) → ToldOk s.house s.done d b → (b ≡ false → (j : ℕ) (a : Asking M) → Memᴰ a (s.house j).memory.asking → about M a ≡ d → ⊥) →
        Inv M L n (record { house = s.house; sent = Told d b ∷ s.sent; done = s.done })
    told-keeps b ok un = subst (λ (x : ℕ → House M). Inv M L n (record { house = x; sent = Told d b ∷ s.sent; done = s.done })) (at_self M i s.house)
        (change M L n s i (s.house i) (Told d b ∷ s.sent) v (record {
          more = λ m x. Memᴰ.tail x;
          fresh = λ m x. elim (Memᴰ.cases_cons x) [
            | inl e ↦ inr (subst⁻¹ (λ (x : Msg M). MsgOk n (at M i (s.house i) s.house) s.done x) e (subst⁻¹ (λ (x : ℕ → House M). ToldOk x s.done d b) (at_self M i s.house) ok))
            | inr r ↦ inl r
          ];
          once = λ t u p q e. elim (new-hold M (Told d b) s.sent t p) [
            | inl x ↦ absurd x
            | inr x ↦
                elim (new-hold M (Told d b) s.sent u q) [ inl z ↦ absurd z | inr z ↦ v.once t u x z e ]
          ];
          nos = λ j c e m x. elim (new-no M (Told d b) s.sent (about M c) x) [ inl z ↦ absurd (un z.1 j c m z.0) | inr z ↦ z ];
          past = λ e x. x;
          hard = λ r g x. x;
          recs = λ r x. rec-more M s.sent (Told d b ∷ s.sent) s.done i r (λ m z. Memᴰ.tail z) (v.recs i r x);
          asks = λ c x. ask-more M s.sent (Told d b ∷ s.sent) s.done i _ c (λ m z. Memᴰ.tail z)
              (λ z. elim (new-no M (Told d b) s.sent (about M c) z) [ inl g ↦ absurd (un g.1 i c x g.0) | inr g ↦ g ]) (v.asks i c x);
          ask_once = v.ask_once i;
          tries = λ d x. known_more M s.sent _ d (λ m z. Memᴰ.tail z) (v.tries i d x);
          good = λ f x. v.good i f x;
        }))

    unruled-undone : (T (ruled M d (s.house i).file) → ⊥) → T (is_in M d s.done) → ⊥
    unruled-undone u h =
        let w = mem-of-in M d s.done h in
        let e = ap (λ (x : Name). x.home) w.2 ∙ eh in
        u (subst (λ (x : Name). T (ruled M x (s.house i).file)) w.2
        (ruled-of-mem M (s.house i).file w.0 (subst (λ (x : ℕ). Memᴰ (Ruled w.0) (s.house x).file) e (v.dones w.0 w.1).on_file)))

    answer_ok : (b : Bool) → CanSay M (s.house i) d b → ToldOk s.house s.done d b
    answer_ok true (say_done r) = let w = mem-of-ruled M (s.house i).file d r in in-of-mem M d w.0 s.done (v.recs i (Ruled w.0) w.1) w.2
    answer_ok false (say_old l u) = (unruled-undone u, subst⁻¹ (λ (x : ℕ). Past (s.house x) d) eh (inl l))
    answer_ok false (say_over t q u) =
        let w = v.tries i d t in
        (unruled-undone u, subst (λ (x : Name). Past (s.house x.home) x) w.2 (v.msgs (Hold w.0) w.1).1)

    answer-un : (b : Bool) → CanSay M (s.house i) d b → b ≡ false → (j : ℕ) (a : Asking M) → Memᴰ a (s.house j).memory.asking → about M a ≡ d → ⊥
    answer-un true (say_done r) e j a k p = (v.asks j a k).unruled (subst⁻¹ (λ (x : Name). T (is_in M x s.done)) p (answer_ok true (say_done r)))
    answer-un false (say_old l u) e j a k p =
        let z : j ≡ i = sym (v.asks j a k).home ∙ ap (λ (x : Name). x.home) p ∙ eh in
        let w : (about M a).start ≡ starts M (s.house i).file = (v.asks j a k).start ∙ ap (λ (x : ℕ). starts M (s.house x).file) z in
        let q : (about M a).start ≡ d.start = ap (λ (x : Name). x.start) p in
        omega arith
    answer-un false (say_over t q u) e j a k p =
        let z : j ≡ i = sym (v.asks j a k).home ∙ ap (λ (x : Name). x.home) p ∙ eh in
        q (asked-of-mem M (s.house i).memory.asking a d (subst (λ (x : ℕ). Memᴰ a (s.house x).memory.asking) z k) p)

    pub answer_keeps : (b : Bool) → CanSay M (s.house i) d b → Inv M L n (record { house = s.house; sent = Told d b ∷ s.sent; done = s.done })
    answer_keeps b c = told-keeps b (answer_ok b c) (answer-un b c)
