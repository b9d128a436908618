-- The ruling.
use mathlib.Core.Path.{◌≡◌, refl, sym, ◌∙◌, ap, subst, subst⁻¹}
use mathlib.Core.Logic.{inl, inr}
use mathlib.Core.Bool.{Bool, true, false}
use mathlib.Core.List.{List, [], ◌∷◌, ◌++◌, Memᴰ}
use Prim.Native.Nat.{ℕ}
use native.Mathlib.Omega.{arith}
use lib.Dec.{T}
use Rattle.protocol.specs.declared.Name.{Name}
use Rattle.protocol.specs.Model.{Model, played_all}
use Rattle.protocol.specs.Laws.{Laws}
use Rattle.protocol.specs.Model.{Sees}
use Rattle.protocol.specs.House.{Rec, Began, Held, Done, Dropped, Ruled, starts, holding, stock, is_in}
use Rattle.protocol.specs.Net.{Asking, House, Msg, Hold, Yes, Told, Net, at, wrote, with_asking, drop_ask, AllYes}
use Rattle.protocol.specs.Sound.{settle}
use Rattle.protocol.proofs.Basics.{decide, snoc-last, snoc_old, snoc-cases}
use Rattle.protocol.proofs.Held.{in-of-mem, mem-of-in, starts-snoc, held-of-holding, fate}
use Rattle.protocol.proofs.Settle.{settle-rule, settle-snoc, played-snoc, serial-snoc, in-snoc-old, in-snoc-cases}
use Rattle.protocol.proofs.Asks.{about, OnceAsked, drop-mem, once-drop}
use Rattle.protocol.proofs.Inv.{KnownName, Inv, Past, MsgOk, ToldOk, RecOk, AskOk, DoneOk, Good, Hard, Kept, kept-all, length-snoc, at_here, at_all, msg-houses, past-at, hard-at}
use Rattle.protocol.proofs.StepsAsk.{told-keeps}
use Rattle.protocol.proofs.StepsFile.{past_same, good-snoc, full}

module _ (M : Model) where
  rec-done : (ms : List (Msg M)) (ds : List M.Order) (t : M.Order) (j : ℕ) (r : Rec M) → RecOk ms ds j r → RecOk ms (ds ++ (t ∷ [])) j r
  rec-done ms ds t j Began k = tt
  rec-done ms ds t j (Held u) k = k
  rec-done ms ds t j (Done d) k = in-snoc-old M ds t d k
  rec-done ms ds t j (Dropped d) k = k
  rec-done ms ds t j (Ruled u) k = snoc_old ds t u k

  tell-done : (hs : ℕ → House M) (ds : List M.Order) (t : M.Order) (d : Name) (b : Bool) → (b ≡ false → M.name t ≡ d → ⊥) → ToldOk hs ds d b → ToldOk hs (ds ++ (t ∷ [])) d b
  tell-done hs ds t d true n k = in-snoc-old M ds t d k
  tell-done hs ds t d false n k = (λ h. elim (in-snoc-cases M ds t d h) [ inl o ↦ k.0 o | inr e ↦ n refl e ], k.1)

  ask-done : (ms : List (Msg M)) (ds : List M.Order) (t : M.Order) (j b c : ℕ) (a : Asking M) → c ≡ b → (M.name t ≡ about M a → ⊥) → AskOk M ms ds j b a → AskOk M ms (ds ++ (t ∷ [])) j c a
  ask-done ms ds t j b c a e n k = record {
    known = k.known;
    home = k.home;
    start = k.start ∙ sym e;
    yeses = k.yeses;
    unruled = λ h. elim (in-snoc-cases M ds t (about M a) h) [ inl o ↦ k.unruled o | inr x ↦ n x ];
    undenied = k.undenied;
  }

module _ (M : Model) (L : Laws M) (n : ℕ) (s : Net M) (v : Inv M L n s) (i : ℕ) (a : Asking M) (k : Memᴰ a (s.house i).memory.asking) (all : AllYes M a) where
  abbrev t : M.Order
  t = a.order

  abbrev ds : List M.Order
  ds = s.done ++ (t ∷ [])

  ask : AskOk M s.sent s.done i (starts M (s.house i).file) a
  ask = v.asks i a k

  -- every house of the order holds it back
  held_at : (j : ℕ) → T (M.party j t) → Memᴰ (Held t) (s.house j).file
  held_at j p =
      let w = v.msgs (Yes j (M.name t)) (ask.yeses j (all j p)) in
      subst (λ (x : M.Order). Memᴰ (Held x) (s.house j).file) (v.once w.0 t (v.recs j (Held w.0) w.2).0 ask.known w.1) w.2

  holds_at : (j : ℕ) (f : List (Rec M)) → Good M L s.done j (s.house j).file f → T (M.party j t) → Memᴰ t (holding M [] f)
  holds_at j f g p = elim (fate M f t (g.hard (Held t) tt (held_at j p))) [
    | inl m ↦ m
    | inr q ↦ elim q [
      | inl x ↦ absurd (ask.unruled (v.recs j (Done (M.name t)) (g.within _ x)))
      | inr x ↦ absurd (ask.undenied (v.recs j (Dropped (M.name t)) (g.within _ x)))
    ]
  ]

  -- no other house does
  not_at : (j : ℕ) (f : List (Rec M)) → Good M L s.done j (s.house j).file f → (T (M.party j t) → ⊥) → T (is_in M (M.name t) (holding M [] f)) → ⊥
  not_at j f g p h =
      let w = mem-of-in M (M.name t) (holding M [] f) h in
      let r = v.recs j (Held w.0) (g.within _ (held-of-holding M f w.0 w.1)) in
      p (subst (λ (x : M.Order). T (M.party j x)) (v.once w.0 t r.0 ask.known w.2) r.1)

  level-at : (j : ℕ) (f : List (Rec M)) → Good M L s.done j (s.house j).file f → settle M j ds (holding M [] f) (stock M j f) ≡ played_all M (λ i. M.empty) ds j
  level-at j f g =
      let last = played-snoc M (λ i. M.empty) s.done t j in
      elim (decide (M.party j t)) [
        | inl p ↦ (settle-rule M L j s.done (holding M [] f) t (stock M j f) g.apart g.fits (holds_at j f g p) ask.unruled).0
            ∙ ap (λ (x : M.Shelves). M.do_here j t x) g.level ∙ sym last
        | inr p ↦ settle-snoc M j s.done (holding M [] f) t (stock M j f) (not_at j f g p) ∙ g.level
            ∙ sym (L.away j t (played_all M (λ i. M.empty) s.done j) p) ∙ sym last
      ]

  good-rule : (j : ℕ) (f : List (Rec M)) → Good M L s.done j (s.house j).file f → Good M L ds j (s.house j).file f
  good-rule j f g = record { began = g.began; hard = g.hard; within = g.within; apart = g.apart; fits = g.fits; level = level-at j f g }

  saw : Sees M (played_all M (λ i. M.empty) s.done) t
  saw j p =
      let g = full M L n s v j in
      let f = (s.house j).file in
      subst (λ (x : M.Shelves). T (M.sees_here j t x)) g.level (settle-rule M L j s.done (holding M [] f) t (stock M j f) g.apart g.fits (holds_at j f g p) ask.unruled).1

  abbrev ruling : House M
  ruling = with_asking M (drop_ask M (M.name t) (s.house i).memory.asking) (wrote M (Ruled t) true (s.house i))

  same : starts M ((s.house i).file ++ (Ruled t ∷ [])) ≡ starts M (s.house i).file
  same = omega (arith, starts-snoc M (s.house i).file (Ruled t))

  abbrev hs : ℕ → House M
  hs = at M i ruling s.house

  pasts : (j : ℕ) (d : Name) → Past (s.house j) d → Past (hs j) d
  pasts = past-at M L n s i ruling (λ d x. past_same M (s.house i) ruling d same refl x)

  hards : (j : ℕ) (r : Rec M) → Hard r → Memᴰ r (s.house j).file → Memᴰ r (hs j).file
  hards = hard-at M L n s i ruling (λ r g x. snoc_old (s.house i).file (Ruled t) r x)

  msg-rule : (m : Msg M) → Memᴰ m s.sent → MsgOk n hs s.done m → MsgOk n hs ds m
  msg-rule (Hold u) x o = o
  msg-rule (Yes j d) x o = o
  msg-rule (Told d b) x o = tell-done M hs s.done t d b
      (λ e q. ask.undenied (subst⁻¹ (λ (z : Name). Memᴰ (Told z false) s.sent) q (subst (λ (z : Bool). Memᴰ (Told d z) s.sent) e x))) o

  done-new : DoneOk M hs s.sent t
  done-new = record {
    known = ask.known;
    on_file = subst⁻¹ (λ (x : ℕ). Memᴰ (Ruled t) (hs x).file) ask.home
        (subst⁻¹ (λ (x : House M). Memᴰ (Ruled t) x.file) (at_here M i ruling s.house) (snoc-last (s.house i).file (Ruled t)));
    held = λ j p. hards j (Held t) tt (held_at j p);
  }

  ruled-keeps : Inv M L n (record { house = hs; sent = s.sent; done = ds })
  ruled-keeps = record {
    once = v.once;
    msgs = λ m x. msg-rule m x (msg-houses M n s.house hs s.done m pasts hards (v.msgs m x));
    dones = λ u x. elim (snoc-cases s.done t u x) [
      | inl o ↦ let w = v.dones u o in record { known = w.known; on_file = hards _ (Ruled u) tt w.on_file; held = λ j p. hards j (Held u) tt (w.held j p) }
      | inr e ↦ subst⁻¹ (λ (z : M.Order). DoneOk M hs s.sent z) e done-new
    ];
    serial = serial-snoc M (λ i. M.empty) s.done t v.serial saw;
    recs = at_all M (λ j x. (r : Rec M) → Memᴰ r x.file → RecOk s.sent ds j r) i ruling s.house
        (λ r x. elim (snoc-cases (s.house i).file (Ruled t) r x) [
          | inl o ↦ rec-done M s.sent s.done t i r (v.recs i r o)
          | inr e ↦ subst⁻¹ (λ (z : Rec M). RecOk s.sent ds i z) e (snoc-last s.done t)
        ])
        (λ j e r x. rec-done M s.sent s.done t j r (v.recs j r x));
    asks = at_all M (λ j x. (c : Asking M) → Memᴰ c x.memory.asking → AskOk M s.sent ds j (starts M x.file) c) i ruling s.house
        (λ c x. let w = drop-mem M (s.house i).memory.asking (M.name t) c (v.ask_once i) x in ask-done M s.sent s.done t i _ _ c same (λ e. w.1 (sym e)) (v.asks i c w.0))
        (λ j e c x. ask-done M s.sent s.done t j _ _ c refl (λ q. e (sym (v.asks j c x).home ∙ ap (λ (d : Name). d.home) (sym q) ∙ ask.home)) (v.asks j c x));
    ask_once = at_all M (λ j x. OnceAsked M x.memory.asking) i ruling s.house (once-drop M (s.house i).memory.asking (M.name t) (v.ask_once i)) (λ j e. v.ask_once j);
    tries = at_all M (λ j x. (d : Name) → T (x.memory.tried d) → KnownName s.sent d) i ruling s.house (v.tries i) (λ j e. v.tries j);
    good = at_all M (λ j x. (f : List (Rec M)) → Kept x f → Good M L ds j x.file f) i ruling s.house
        (λ f x. let g = good-rule i (s.house i).file (full M L n s v i) in
        subst⁻¹ (λ (y : List (Rec M)). Good M L ds i ((s.house i).file ++ (Ruled t ∷ [])) y) (kept-all M ruling (omega (arith, length-snoc M (s.house i).file (Ruled t))) f x)
        (good-snoc M L ds i (s.house i).file (Ruled t) g.apart g.fits g.level))
        (λ j e f x. good-rule j f (v.good j f x));
  }

  pub rule-keeps : Inv M L n (record { house = hs; sent = Told (M.name t) true ∷ s.sent; done = ds })
  rule-keeps = told-keeps M L n (record { house = hs; sent = s.sent; done = ds }) ruled-keeps i (M.name t) ask.home true
      (in-of-mem M (M.name t) t ds (snoc-last s.done t) refl)
      (λ e j c x q. (ruled-keeps.asks j c x).unruled (in-of-mem M (about M c) t ds (snoc-last s.done t) (sym q)))
