-- Lists of orders by their names, and what a file says, one record at a time.
use mathlib.Core.Path.{◌≡◌, refl, sym, ◌∙◌, ap, subst, subst⁻¹}
use mathlib.Core.Logic.{◌⊎◌, inl, inr}
use mathlib.Core.Bool.{cond}
use mathlib.Core.List.Memᴰ
use mathlib.Core.List.{List, [], ◌∷◌, ◌++◌, Memᴰ}
use Prim.Native.Nat.{ℕ, ◌+◌}
use native.Mathlib.Omega.{arith}
use lib.Dec.{T}
use Rattle.protocol.specs.declared.Name.{Name}
use Rattle.protocol.specs.Model.{Model, same_name}
use Rattle.protocol.specs.House.{Rec, Began, Held, Done, Dropped, Ruled, count_began, starts, without, hold_next, holding, stock_next, stock_from, stock, ever_held, is_held, is_ruled, ruled, is_in}
use Rattle.protocol.proofs.Basics.{decide, is_true, is_false, by_id, or_l, or_r, or_cases, same-eq, eq-same, same_refl, snoc-cases, snoc_old, snoc-last}

module _ (M : Model) where
  -- no two of one name
  unfoldable pub Distinct : List M.Order → Type 0
  Distinct [] = Unit {0}
  Distinct (t ∷ ts) = (T (is_in M (M.name t) ts) → ⊥) × Distinct ts

  pub in-of-mem : (d : Name) (t : M.Order) (ts : List M.Order) → Memᴰ t ts → M.name t ≡ d → T (is_in M d ts)
  unfolding is_in
  in-of-mem d t [] m p = elim m [ ]
  in-of-mem d t (x ∷ ts) (Memᴰ.head e) p = or_l _ _ (eq-same d (M.name x) (sym p ∙ ap M.name e))
  in-of-mem d t (x ∷ ts) (Memᴰ.tail m) p = or_r (same_name d (M.name x)) _ (in-of-mem d t ts m p)

  pub mem-of-in : (d : Name) (ts : List M.Order) → T (is_in M d ts) → (t : M.Order) × Memᴰ t ts × (M.name t ≡ d)
  unfolding is_in
  mem-of-in d [] h = elim h [ ]
  mem-of-in d (x ∷ ts) h = elim (or_cases (same_name d (M.name x)) (is_in M d ts) h) [
    | inl s ↦ (x, Memᴰ.head refl, sym (same-eq d (M.name x) s))
    | inr r ↦ let w = mem-of-in d ts r in (w.0, Memᴰ.tail w.1, w.2)
  ]

  pub without-head : (t : M.Order) (ts : List M.Order) (d : Name) → d ≡ M.name t → without M d (t ∷ ts) ≡ without M d ts
  unfolding without
  without-head t ts d e = rw (is_true (same_name d (M.name t)) (eq-same _ _ e))

  pub without_other : (t : M.Order) (ts : List M.Order) (d : Name) → (d ≡ M.name t → ⊥) → without M d (t ∷ ts) ≡ t ∷ without M d ts
  unfolding without
  without_other t ts d e = rw (is_false (same_name d (M.name t)) (λ s. e (same-eq _ _ s)))

  pub in_head : (t : M.Order) (ts : List M.Order) (d : Name) → d ≡ M.name t → T (is_in M d (t ∷ ts))
  unfolding is_in
  in_head t ts d e = or_l _ _ (eq-same _ _ e)

  pub in_tail : (t : M.Order) (ts : List M.Order) (d : Name) → T (is_in M d ts) → T (is_in M d (t ∷ ts))
  unfolding is_in
  in_tail t ts d e = or_r (same_name d (M.name t)) _ e

  pub in-cases : (t : M.Order) (ts : List M.Order) (d : Name) → T (is_in M d (t ∷ ts)) → (d ≡ M.name t) ⊎ T (is_in M d ts)
  unfolding is_in
  in-cases t ts d e = elim (or_cases (same_name d (M.name t)) (is_in M d ts) e) [ inl s ↦ inl (same-eq _ _ s) | inr r ↦ inr r ]

  pub without-none : (ts : List M.Order) (d : Name) → (T (is_in M d ts) → ⊥) → without M d ts ≡ ts
  unfolding without
  without-none [] d n = refl
  without-none (t ∷ ts) d n = without_other t ts d (λ e. n (in_head t ts d e)) ∙ ap (λ (r : List M.Order). t ∷ r) (without-none ts d (λ r. n (in_tail t ts d r)))

  -- what is left when a name is taken out is what was there, of other names
  pub without-mem : (ts : List M.Order) (d : Name) (u : M.Order) → Memᴰ u (without M d ts) → Memᴰ u ts × (d ≡ M.name u → ⊥)
  unfolding without
  without-mem [] d u = λ m. elim m [ ]
  without-mem (t ∷ ts) d u =
      by_id (λ b. Memᴰ u (cond b (without M d ts) (t ∷ without M d ts)) → Memᴰ u (t ∷ ts) × (d ≡ M.name u → ⊥)) d (M.name t)
      (λ e m. let w = without-mem ts d u m in (Memᴰ.tail w.0, w.1))
      (λ n m. elim (Memᴰ.cases_cons m) [
        | inl e ↦ (Memᴰ.head e, λ q. n (q ∙ ap M.name e))
        | inr r ↦ let w = without-mem ts d u r in (Memᴰ.tail w.0, w.1)
      ])

  pub mem-without : (ts : List M.Order) (d : Name) (u : M.Order) → Memᴰ u ts → (d ≡ M.name u → ⊥) → Memᴰ u (without M d ts)
  mem-without [] d u m n = elim m [ ]
  mem-without (t ∷ ts) d u m n =
      let P : List M.Order → Type 0 = λ l. Memᴰ u l in
      elim (decide (same_name d (M.name t))) [
        | inl s ↦ subst⁻¹ P (without-head t ts d (same-eq _ _ s)) (elim (Memᴰ.cases_cons m) [ inl e ↦ absurd (n (same-eq _ _ s ∙ ap M.name (sym e))) | inr r ↦ mem-without ts d u r n ])
        | inr f ↦ subst⁻¹ P (without_other t ts d (λ q. f (eq-same _ _ q))) (elim (Memᴰ.cases_cons m) [ inl e ↦ Memᴰ.head e | inr r ↦ Memᴰ.tail (mem-without ts d u r n) ])
      ]

  -- two of one list and one name are one
  pub distinct-once : (ts : List M.Order) → Distinct ts → (t u : M.Order) → Memᴰ t ts → Memᴰ u ts → M.name t ≡ M.name u → t ≡ u
  unfolding Distinct
  distinct-once [] q t u m k e = elim m [ ]
  distinct-once (x ∷ ts) q t u m k e = elim (Memᴰ.cases_cons m) [
    | inl a ↦ elim (Memᴰ.cases_cons k) [ inl b ↦ a ∙ sym b | inr b ↦ absurd (q.0 (in-of-mem (M.name x) u ts b (sym e ∙ ap M.name a))) ]
    | inr a ↦ elim (Memᴰ.cases_cons k) [ inl b ↦ absurd (q.0 (in-of-mem (M.name x) t ts a (e ∙ ap M.name b))) | inr b ↦ distinct-once ts q.1 t u a b e ]
  ]

  in-snoc : (d : Name) (ts : List M.Order) (t : M.Order) → T (is_in M d (ts ++ (t ∷ []))) → T (is_in M d ts) ⊎ (d ≡ M.name t)
  in-snoc d ts t h =
      let w = mem-of-in d (ts ++ (t ∷ [])) h in
      elim (snoc-cases ts t w.0 w.1) [ inl k ↦ inl (in-of-mem d w.0 ts k w.2) | inr e ↦ inr (sym w.2 ∙ ap M.name e) ]

  pub distinct_snoc : (ts : List M.Order) (t : M.Order) → Distinct ts → (T (is_in M (M.name t) ts) → ⊥) → Distinct (ts ++ (t ∷ []))
  unfolding Distinct is_in
  distinct_snoc [] t q n = ((λ h. h), tt)
  distinct_snoc (u ∷ ts) t q n = (
    (λ h. elim (in-snoc (M.name u) ts t h) [ inl k ↦ q.0 k | inr e ↦ n (in_head u ts (M.name t) (sym e)) ]),
    distinct_snoc ts t q.1 (λ h. n (in_tail u ts (M.name t) h)),
  )

  pub in_without : (ts : List M.Order) (d e : Name) → T (is_in M e (without M d ts)) → T (is_in M e ts)
  in_without ts d e h = let w = mem-of-in e (without M d ts) h in in-of-mem e w.0 ts (without-mem ts d w.0 w.1).0 w.2

  pub distinct_without : (ts : List M.Order) (d : Name) → Distinct ts → Distinct (without M d ts)
  unfolding Distinct without
  distinct_without [] d q = q
  distinct_without (t ∷ ts) d q =
      by_id (λ b. Distinct (cond b (without M d ts) (t ∷ without M d ts))) d (M.name t) (λ e. distinct_without ts d q.1) (λ n. (λ h. q.0 (in_without ts d (M.name t) h), distinct_without ts d q.1))

  -- one more record
  pub starts-snoc : (f : List (Rec M)) (r : Rec M) → starts M (f ++ (r ∷ [])) ≡ starts M f + count_began M r 0
  unfolding starts
  starts-snoc [] r = omega arith
  starts-snoc (Began ∷ f) r = rw (starts-snoc f r) (omega arith)
  starts-snoc (Held t ∷ f) r = starts-snoc f r
  starts-snoc (Done d ∷ f) r = starts-snoc f r
  starts-snoc (Dropped d ∷ f) r = starts-snoc f r
  starts-snoc (Ruled t ∷ f) r = starts-snoc f r

  holding-from : (os : List M.Order) (f : List (Rec M)) (r : Rec M) → holding M os (f ++ (r ∷ [])) ≡ hold_next M r (holding M os f)
  unfolding holding
  holding-from os [] r = refl
  holding-from os (q ∷ f) r = holding-from (hold_next M q os) f r

  pub holding-snoc : (f : List (Rec M)) (r : Rec M) → holding M [] (f ++ (r ∷ [])) ≡ hold_next M r (holding M [] f)
  holding-snoc f r = holding-from [] f r

  stock-from : (h : ℕ) (os : List M.Order) (m : M.Shelves) (f : List (Rec M)) (r : Rec M) →
      stock_from M h os m (f ++ (r ∷ [])) ≡ stock_next M h r (holding M os f) (stock_from M h os m f)
  unfolding holding stock_from
  stock-from h os m [] r = refl
  stock-from h os m (q ∷ f) r = stock-from h (hold_next M q os) (stock_next M h q os m) f r

  pub stock-snoc : (h : ℕ) (f : List (Rec M)) (r : Rec M) → stock M h (f ++ (r ∷ [])) ≡ stock_next M h r (holding M [] f) (stock M h f)
  stock-snoc h f r = stock-from h [] M.empty f r

  -- records that say that an order was held, or ruled
  pub ever-of-mem : (f : List (Rec M)) (t : M.Order) → Memᴰ (Held t) f → T (ever_held M (M.name t) f)
  unfolding ever_held
  ever-of-mem [] t m = elim m [ ]
  ever-of-mem (r ∷ f) t m = elim (Memᴰ.cases_cons m) [
    | inl e ↦ or_l _ _ (subst (λ (x : Rec M). T (is_held M (M.name t) x)) e (same_refl (M.name t)))
    | inr k ↦ or_r (is_held M (M.name t) r) _ (ever-of-mem f t k)
  ]

  pub ruled-of-mem : (f : List (Rec M)) (t : M.Order) → Memᴰ (Ruled t) f → T (ruled M (M.name t) f)
  unfolding ruled
  ruled-of-mem [] t m = elim m [ ]
  ruled-of-mem (r ∷ f) t m = elim (Memᴰ.cases_cons m) [
    | inl e ↦ or_l _ _ (subst (λ (x : Rec M). T (is_ruled M (M.name t) x)) e (same_refl (M.name t)))
    | inr k ↦ or_r (is_ruled M (M.name t) r) _ (ruled-of-mem f t k)
  ]

  is-ruled : (d : Name) (r : Rec M) → T (is_ruled M d r) → (t : M.Order) × (Ruled t ≡ r) × (M.name t ≡ d)
  is-ruled d Began h = elim h [ ]
  is-ruled d (Held t) h = elim h [ ]
  is-ruled d (Done i) h = elim h [ ]
  is-ruled d (Dropped i) h = elim h [ ]
  is-ruled d (Ruled t) h = (t, refl, sym (same-eq _ _ h))

  pub mem-of-ruled : (f : List (Rec M)) (d : Name) → T (ruled M d f) → (t : M.Order) × Memᴰ (Ruled t) f × (M.name t ≡ d)
  unfolding ruled
  mem-of-ruled [] d h = elim h [ ]
  mem-of-ruled (r ∷ f) d h = elim (or_cases (is_ruled M d r) (ruled M d f) h) [
    | inl s ↦ let w = is-ruled d r s in (w.0, Memᴰ.head w.1, w.2)
    | inr k ↦ let w = mem-of-ruled f d k in (w.0, Memᴰ.tail w.1, w.2)
  ]

  -- what is held back was held
  next-mem : (r : Rec M) (os : List M.Order) (t : M.Order) → Memᴰ t (hold_next M r os) → Memᴰ t os ⊎ (Held t ≡ r)
  next-mem Began os t m = inl m
  next-mem (Held u) os t m = elim (snoc-cases os u t m) [ inl k ↦ inl k | inr e ↦ inr (ap {B = Rec M} Held e) ]
  next-mem (Done i) os t m = inl (without-mem os i t m).0
  next-mem (Dropped i) os t m = inl (without-mem os i t m).0
  next-mem (Ruled u) os t m = inl m

  from-held : (os : List M.Order) (f : List (Rec M)) (t : M.Order) → Memᴰ t (holding M os f) → Memᴰ t os ⊎ Memᴰ (Held t) f
  unfolding holding
  from-held os [] t m = inl m
  from-held os (r ∷ f) t m = elim (from-held (hold_next M r os) f t m) [
    | inl k ↦ elim (next-mem r os t k) [ inl a ↦ inl a | inr e ↦ inr (Memᴰ.head e) ]
    | inr k ↦ inr (Memᴰ.tail k)
  ]

  pub held-of-holding : (f : List (Rec M)) (t : M.Order) → Memᴰ t (holding M [] f) → Memᴰ (Held t) f
  held-of-holding f t m = elim (from-held [] f t m) [ inl k ↦ elim k [ ] | inr k ↦ k ]

  -- what was held is held back, or is over
  abbrev pub Fate : List M.Order → List (Rec M) → M.Order → Type 0
  Fate os f t = Memᴰ t os ⊎ (Memᴰ (Done (M.name t)) f ⊎ Memᴰ (Dropped (M.name t)) f)

  fate-tail : (os : List M.Order) (r : Rec M) (f : List (Rec M)) (t : M.Order) → Fate os f t → Fate os (r ∷ f) t
  fate-tail os r f t (inl m) = inl m
  fate-tail os r f t (inr (inl m)) = inr (inl (Memᴰ.tail m))
  fate-tail os r f t (inr (inr m)) = inr (inr (Memᴰ.tail m))

  next-fate : (r : Rec M) (os : List M.Order) (t : M.Order) → Memᴰ t os → Memᴰ t (hold_next M r os) ⊎ ((r ≡ Done (M.name t)) ⊎ (r ≡ Dropped (M.name t)))
  next-fate Began os t m = inl m
  next-fate (Held u) os t m = inl (snoc_old os u t m)
  next-fate (Done i) os t m = elim (decide (same_name i (M.name t))) [
    | inl s ↦ inr (inl (ap {B = Rec M} Done (same-eq _ _ s)))
    | inr n ↦ inl (mem-without os i t m (λ e. n (eq-same _ _ e)))
  ]
  next-fate (Dropped i) os t m = elim (decide (same_name i (M.name t))) [
    | inl s ↦ inr (inr (ap {B = Rec M} Dropped (same-eq _ _ s)))
    | inr n ↦ inl (mem-without os i t m (λ e. n (eq-same _ _ e)))
  ]
  next-fate (Ruled u) os t m = inl m

  kept-fate : (os : List M.Order) (f : List (Rec M)) (t : M.Order) → Memᴰ t os → Fate (holding M os f) f t
  unfolding holding
  kept-fate os [] t m = inl m
  kept-fate os (r ∷ f) t m = elim (next-fate r os t m) [
    | inl k ↦ fate-tail (holding M (hold_next M r os) f) r f t (kept-fate (hold_next M r os) f t k)
    | inr q ↦ elim q [ inl e ↦ inr (inl (Memᴰ.head (sym e))) | inr e ↦ inr (inr (Memᴰ.head (sym e))) ]
  ]

  fate-from : (os : List M.Order) (f : List (Rec M)) (t : M.Order) → Memᴰ (Held t) f → Fate (holding M os f) f t
  unfolding holding
  fate-from os [] t m = elim m [ ]
  fate-from os (r ∷ f) t m = elim (Memᴰ.cases_cons m) [
    | inl e ↦ fate-tail (holding M (hold_next M r os) f) r f t (kept-fate (hold_next M r os) f t (subst (λ (x : Rec M). Memᴰ t (hold_next M x os)) e (snoc-last os t)))
    | inr k ↦ fate-tail (holding M (hold_next M r os) f) r f t (fate-from (hold_next M r os) f t k)
  ]

  pub fate : (f : List (Rec M)) (t : M.Order) → Memᴰ (Held t) f → Fate (holding M [] f) f t
  fate f t m = fate-from [] f t m

  pub ever-of-in : (f : List (Rec M)) (d : Name) → T (is_in M d (holding M [] f)) → T (ever_held M d f)
  ever-of-in f d h =
      let w = mem-of-in d (holding M [] f) h in
      subst (λ (x : Name). T (ever_held M x f)) w.2 (ever-of-mem f w.0 (held-of-holding f w.0 w.1))
