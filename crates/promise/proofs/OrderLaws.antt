-- Orders that read and write entries keep the laws.
use mathlib.Core.Path.{◌≡◌, refl, sym, ◌∙◌, ap, ap₂, subst, subst⁻¹}
use mathlib.Core.Logic.{inl, inr}
use mathlib.Core.Bool.{Bool, cond, ◌&&◌, not}
use mathlib.Core.List.Memᴰ
use mathlib.Core.List.{List, [], ◌∷◌, ◌++◌, Memᴰ}
use Prim.Native.Nat.{ℕ}
use native.Mathlib.Omega.{arith}
use lib.Dec.{T, T_not}
use lib.ListN.{get_or, set}
use lib.Seq.{get_or-set_other, set_comm}
use Rattle.protocol.specs.declared.Name.{Name}
use Rattle.protocol.specs.Model.{same_name}
use Rattle.protocol.specs.Laws.{Laws}
use lib.Dec.{eqb, eqb→eq, eqb_refl}
use mathlib.Core.Bool.{◌||◌}
use Rattle.orders.specs.declared.Entry.{Entry}
use Rattle.protocol.specs.House.{without}
use Rattle.orders.specs.Order.{Order, house_of, item_of, put, touches, meets, clash, in_house, party, ours, clashes, as_said, seen_here, entry_model, houses_of, same_entry, same_entries, same_order}
use Rattle.protocol.proofs.Basics.{is_false, same-eq, same_refl, by_bool, or_l, or_r, or_cases, and_l, and_r, and_both, snoc-cases}
use Rattle.protocol.proofs.Held.{without-mem}

-- tests as facts
pub names-of-mem : (k : ℕ) (es : List Entry) (e : Entry) → Memᴰ e es → e.key ≡ k → T (touches k es)
names-of-mem k [] e m p = elim m [ ]
names-of-mem k (x ∷ es) e m p = elim (Memᴰ.cases_cons m) [
  | inl q ↦ or_l _ _ (subst (λ (z : Entry). T (eqb z.key k)) q (subst⁻¹ (λ (z : ℕ). T (eqb z k)) p (eqb_refl k)))
  | inr r ↦ or_r (eqb x.key k) _ (names-of-mem k es e r p)
]

pub mem-of-names : (k : ℕ) (es : List Entry) → T (touches k es) → (e : Entry) × Memᴰ e es × (e.key ≡ k)
mem-of-names k [] h = elim h [ ]
mem-of-names k (x ∷ es) h = elim (or_cases (eqb x.key k) (touches k es) h) [
  | inl q ↦ (x, Memᴰ.head refl, eqb→eq x.key k q)
  | inr r ↦ let w = mem-of-names k es r in (w.0, Memᴰ.tail w.1, w.2)
]

pub meets-of : (k : ℕ) (es fs : List Entry) → T (touches k es) → T (touches k fs) → T (meets es fs)
meets-of k [] fs a b = elim a [ ]
meets-of k (x ∷ es) fs a b = elim (or_cases (eqb x.key k) (touches k es) a) [
  | inl q ↦ or_l _ _ (subst⁻¹ (λ (z : ℕ). T (touches z fs)) (eqb→eq x.key k q) b)
  | inr r ↦ or_r (touches x.key fs) _ (meets-of k es fs r b)
]

pub of_meets : (es fs : List Entry) → T (meets es fs) → (k : ℕ) × T (touches k es) × T (touches k fs)
of_meets [] fs h = elim h [ ]
of_meets (x ∷ es) fs h = elim (or_cases (touches x.key fs) (meets es fs) h) [
  | inl q ↦ (x.key, or_l _ _ (eqb_refl x.key), q)
  | inr r ↦ let w = of_meets es fs r in (w.0, or_r (eqb x.key w.0) _ w.1, w.2)
]

meets-sym : (es fs : List Entry) → T (meets es fs) → T (meets fs es)
meets-sym es fs h = let w = of_meets es fs h in meets-of w.0 fs es w.2 w.1

clash-wr : (t u : Order) → T (meets t.writes u.reads) → T (clash t u)
clash-wr t u h = or_l _ _ (or_l _ _ h)

clash-ww : (t u : Order) → T (meets t.writes u.writes) → T (clash t u)
clash-ww t u h = or_l _ _ (or_r (meets t.writes u.reads) _ h)

clash-rw : (t u : Order) → T (meets t.reads u.writes) → T (clash t u)
clash-rw t u h = or_r (meets t.writes u.reads || meets t.writes u.writes) _ h

pub clash-sym : (t u : Order) → T (clash t u) → T (clash u t)
clash-sym t u h = elim (or_cases (meets t.writes u.reads || meets t.writes u.writes) (meets t.reads u.writes) h) [
  | inl a ↦ elim (or_cases (meets t.writes u.reads) (meets t.writes u.writes) a) [
    | inl b ↦ clash-rw u t (meets-sym t.writes u.reads b)
    | inr b ↦ clash-ww u t (meets-sym t.writes u.writes b)
  ]
  | inr a ↦ clash-wr u t (meets-sym t.reads u.writes a)
]

clashes-of-mem : (t u : Order) (us : List Order) → Memᴰ u us → T (clash t u) → T (clashes t us)
clashes-of-mem t u [] m h = elim m [ ]
clashes-of-mem t u (x ∷ us) m h = elim (Memᴰ.cases_cons m) [
  | inl e ↦ or_l _ _ (subst (λ (z : Order). T (clash t z)) e h)
  | inr r ↦ or_r (clash t x) _ (clashes-of-mem t u us r h)
]

-- what a house's part of the writes leaves on a shelf of its own
differ : (h k l : ℕ) → house_of k ≡ h → house_of l ≡ h → (k ≡ l → ⊥) → item_of k ≡ item_of l → ⊥
differ h k l a b n e = n (omega arith)

pub put-still : (h : ℕ) (e : Entry) (m : List ℕ) (k : ℕ) → house_of k ≡ h → (T (eqb e.key k) → ⊥) → get_or (put h e m) (item_of k) 0 ≡ get_or m (item_of k) 0
put-still h e m k a n =
    by_bool (λ b. get_or (cond b (set m (item_of e.key) e.amount) m) (item_of k) 0 ≡ get_or m (item_of k) 0) (eqb (house_of e.key) h)
    (λ t. get_or-set_other m (item_of e.key) (item_of k) e.amount 0 (differ h k e.key a (eqb→eq _ _ t) (λ q. n (subst (λ (z : ℕ). T (eqb z k)) q (eqb_refl k))))) (λ _. refl)

pub ours-still : (h : ℕ) (es : List Entry) (m : List ℕ) (k : ℕ) → house_of k ≡ h → (T (touches k es) → ⊥) → get_or (ours h es m) (item_of k) 0 ≡ get_or m (item_of k) 0
ours-still h [] m k a n = refl
ours-still h (e ∷ es) m k a n = ours-still h es (put h e m) k a (λ q. n (or_r (eqb e.key k) _ q)) ∙ put-still h e m k a (λ q. n (or_l _ _ q))

pub ours-away : (h : ℕ) (es : List Entry) (m : List ℕ) → (T (in_house h es) → ⊥) → ours h es m ≡ m
ours-away h [] m n = refl
ours-away h (e ∷ es) m n =
    ap (λ w. ours h es w) (ap (λ (b : Bool). cond b (set m (item_of e.key) e.amount) m) (is_false (eqb (house_of e.key) h) (λ q. n (or_l _ _ q))))
    ∙ ours-away h es m (λ q. n (or_r (eqb (house_of e.key) h) _ q))

put-swap : (h : ℕ) (e f : Entry) (m : List ℕ) → (T (eqb f.key e.key) → ⊥) → put h e (put h f m) ≡ put h f (put h e m)
put-swap h e f m n =
    by_bool (λ b. cond b (set (put h f m) (item_of e.key) e.amount) (put h f m) ≡ put h f (cond b (set m (item_of e.key) e.amount) m)) (eqb (house_of e.key) h)
    (λ t. by_bool (λ b. set (cond b (set m (item_of f.key) f.amount) m) (item_of e.key) e.amount ≡ cond b (set (set m (item_of e.key) e.amount) (item_of f.key) f.amount) (set m (item_of e.key) e.amount)) (eqb (house_of f.key) h)
    (λ u. set_comm m (item_of f.key) (item_of e.key) f.amount e.amount (differ h f.key e.key (eqb→eq _ _ u) (eqb→eq _ _ t) (λ q. n (subst (λ (z : ℕ). T (eqb f.key z)) q (eqb_refl f.key)))))
    (λ _. refl))
    (λ _. refl)

ours-put : (h : ℕ) (es : List Entry) (f : Entry) (m : List ℕ) → (T (touches f.key es) → ⊥) → ours h es (put h f m) ≡ put h f (ours h es m)
ours-put h [] f m n = refl
ours-put h (e ∷ es) f m n =
    ap (λ w. ours h es w) (put-swap h e f m (λ q. n (or_l _ _ (subst (λ (z : ℕ). T (eqb z f.key)) (eqb→eq f.key e.key q) (eqb_refl f.key)))))
    ∙ ours-put h es f (put h e m) (λ q. n (or_r (eqb e.key f.key) _ q))

ours-swap : (h : ℕ) (es fs : List Entry) (m : List ℕ) → (T (meets fs es) → ⊥) → ours h es (ours h fs m) ≡ ours h fs (ours h es m)
ours-swap h es [] m n = refl
ours-swap h es (f ∷ fs) m n =
    ours-swap h es fs (put h f m) (λ q. n (or_r (touches f.key es) _ q)) ∙ ap (λ w. ours h fs w) (ours-put h es f m (λ q. n (or_l _ _ q)))

said_same : (h : ℕ) (e : Entry) (m m' : List ℕ) → (house_of e.key ≡ h → get_or m (item_of e.key) 0 ≡ get_or m' (item_of e.key) 0) → T (as_said h m e) → T (as_said h m' e)
said_same h e m m' p =
    by_bool (λ b. T (not b || eqb (get_or m (item_of e.key) 0) e.amount) → T (not b || eqb (get_or m' (item_of e.key) 0) e.amount)) (eqb (house_of e.key) h)
    (λ t q. subst (λ (z : ℕ). T (eqb z e.amount)) (p (eqb→eq _ _ t)) q) (λ _ q. q)

seen_same : (h : ℕ) (es : List Entry) (m m' : List ℕ) → ((e : Entry) → Memᴰ e es → house_of e.key ≡ h → get_or m (item_of e.key) 0 ≡ get_or m' (item_of e.key) 0) → T (seen_here h es m) → T (seen_here h es m')
seen_same h [] m m' p q = tt
seen_same h (e ∷ es) m m' p q = and_both _ _
    (said_same h e m m' (p e (Memᴰ.head refl)) (and_l (as_said h m e) (seen_here h es m) q))
    (seen_same h es m m' (λ x k. p x (Memᴰ.tail k)) (and_r (as_said h m e) (seen_here h es m) q))

-- held back together: each sees what it read, and no two clash
pub record Fit (h : ℕ) (us : List Order) (m : List ℕ) : Type 0 where
  pub seen : (u : Order) → Memᴰ u us → T (seen_here h u.reads m)
  pub clear : (u w : Order) → Memᴰ u us → Memᴰ w us → (u.name ≡ w.name → ⊥) → T (clash u w) → ⊥

fit-join : (h : ℕ) (t : Order) (us : List Order) (m : List ℕ) → Fit h us m → T (not (clashes t us) && seen_here h t.reads m) → Fit h (us ++ (t ∷ [])) m
fit-join h t us m f q =
    let no-clash : T (clashes t us) → ⊥ = T_not (clashes t us) (and_l (not (clashes t us)) (seen_here h t.reads m) q) in
    record {
      seen = λ u k. elim (snoc-cases us t u k) [
        | inr e ↦ subst⁻¹ (λ (z : Order). T (seen_here h z.reads m)) e (and_r (not (clashes t us)) (seen_here h t.reads m) q)
        | inl r ↦ f.seen u r
      ];
      clear = λ u w k l n c. elim (snoc-cases us t u k) [
        | inr e ↦ elim (snoc-cases us t w l) [
          | inr d ↦ n (ap (λ (z : Order). z.name) (e ∙ sym d))
          | inl r ↦ no-clash (clashes-of-mem t w us r (subst (λ (z : Order). T (clash z w)) e c))
        ]
        | inl r ↦ elim (snoc-cases us t w l) [
          | inr d ↦ no-clash (clashes-of-mem t u us r (clash-sym u t (subst (λ (z : Order). T (clash u z)) d c)))
          | inl x ↦ f.clear u w r x n c
        ]
      ];
    }

fit-leave : (h : ℕ) (i : Name) (us : List Order) (m : List ℕ) → Fit h us m → Fit h (without entry_model i us) m
fit-leave h i us m f = record {
  seen = λ u k. f.seen u (without-mem entry_model us i u k).0;
  clear = λ u w k l. f.clear u w (without-mem entry_model us i u k).0 (without-mem entry_model us i w l).0;
}

fit-finish : (h : ℕ) (u : Order) (us : List Order) (m : List ℕ) → Fit h us m → Memᴰ u us → Fit h (without entry_model u.name us) (ours h u.writes m)
fit-finish h u us m f k = record {
  seen = λ w l.
      let q = without-mem entry_model us u.name w l in
      seen_same h w.reads m (ours h u.writes m)
      (λ e x a. sym (ours-still h u.writes m e.key a (λ b. f.clear u w k q.0 q.1 (clash-wr u w (meets-of e.key u.writes w.reads b (names-of-mem e.key w.reads e x refl))))))
      (f.seen w q.0);
  clear = λ w x a b. f.clear w x (without-mem entry_model us u.name w a).0 (without-mem entry_model us u.name x b).0;
}

in-houses : (h : ℕ) (es : List Entry) → T (in_house h es) → Memᴰ h (houses_of es)
unfolding houses_of
in-houses h [] p = elim p [ ]
in-houses h (e ∷ es) p = elim (or_cases (eqb (house_of e.key) h) (in_house h es) p) [
  | inl q ↦ Memᴰ.head (sym (eqb→eq (house_of e.key) h q))
  | inr r ↦ Memᴰ.tail (in-houses h es r)
]

party-in-houses : (h : ℕ) (t : Order) → T (party h t) → Memᴰ h (houses_of t.reads ++ houses_of t.writes)
party-in-houses h t p = elim (or_cases (in_house h t.reads) (in_house h t.writes) p) [
  | inl q ↦ Memᴰ.append_left (houses_of t.writes) (in-houses h t.reads q)
  | inr q ↦ Memᴰ.append_right (houses_of t.reads) (in-houses h t.writes q)
]

same-entry : (a b : Entry) → T (same_entry a b) → a ≡ b
same-entry a b p =
    let k = eqb→eq a.key b.key (and_l (eqb a.key b.key) (eqb a.amount b.amount) p) in
    let v = eqb→eq a.amount b.amount (and_r (eqb a.key b.key) (eqb a.amount b.amount) p) in
    λ i. record { key = k i; amount = v i }

same_entries_lem : (es fs : List Entry) → T (same_entries es fs) → es ≡ fs
unfolding same_entries
same_entries_lem [] [] p = refl
same_entries_lem [] (f ∷ fs) p = elim p [ ]
same_entries_lem (e ∷ es) [] p = elim p [ ]
same_entries_lem (e ∷ es) (f ∷ fs) p = ap₂ ◌∷◌ (same-entry e f (and_l (same_entry e f) (same_entries es fs) p)) (same_entries_lem es fs (and_r (same_entry e f) (same_entries es fs) p))

same-order : (t u : Order) → T (same_order t u) → t ≡ u
same-order t u p =
    let a = same_name t.name u.name in
    let b = same_entries t.reads u.reads in
    let c = same_entries t.writes u.writes in
    let x = same-eq t.name u.name (and_l a b (and_l (a && b) c p)) in
    let y = same_entries_lem t.reads u.reads (and_r a b (and_l (a && b) c p)) in
    let z = same_entries_lem t.writes u.writes (and_r (a && b) c p) in
    λ i. record { name = x i; reads = y i; writes = z i }

self-entries : (es : List Entry) → T (same_entries es es)
unfolding same_entries
self-entries [] = tt
self-entries (e ∷ es) = and_both _ _ (and_both _ _ (eqb_refl e.key) (eqb_refl e.amount)) (self-entries es)

self-order : (t : Order) → T (same_order t t)
self-order t = and_both _ _ (and_both _ _ (same_refl t.name) (self-entries t.reads)) (self-entries t.writes)

pub order-laws : Laws entry_model
order-laws = record {
  Fit = Fit;
  none = λ h. record { seen = λ u k. elim k [ ]; clear = λ u w k. elim k [ ] };
  join = fit-join;
  leave = fit-leave;
  finish = fit-finish;
  sees = λ h u us m f k. f.seen u k;
  swap = λ h u w us m f k l n. ours-swap h u.writes w.writes m (λ x. f.clear u w k l n (clash-ww u w (meets-sym w.writes u.writes x)));
  party-houses = party-in-houses;
  same_self = self-order;
  same-one = same-order;
  away = λ h t m n. ours-away h t.writes m (λ x. n (or_r (in_house h t.reads) _ x));
}

pub fit-clear : (h : ℕ) (us : List Order) (m : List ℕ) → order-laws.Fit h us m → (t u : Order) → Memᴰ t us → Memᴰ u us → (t.name ≡ u.name → ⊥) → T (clash t u) → ⊥
unfolding order-laws
fit-clear h us m f = f.clear
