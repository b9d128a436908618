-- A house's shelves, by item, against one shelf for each key.
use mathlib.Core.Path.{◌≡◌, refl, sym, ◌∙◌, ap, subst, subst⁻¹}
use mathlib.Core.Logic.{inl, inr}
use mathlib.Core.Bool.{Bool, cond, ◌&&◌, not}
use mathlib.Core.List.Memᴰ
use mathlib.Core.List.{List, [], ◌∷◌, Memᴰ}
use Prim.Native.Nat.{ℕ, ◌<◌}
use native.Mathlib.Omega.{arith}
use lib.Dec.{T, T_not, eqb, eqb→eq, eqb_refl, ltb, leb, leb→le}
use lib.ListN.{length, get_or, set, length-set}
use lib.Seq.{get_or-set_same}
use Rattle.protocol.specs.Model.{name_ok, do_all, played_all, SerialAll}
use Rattle.protocol.specs.Sound.{settle}
use Rattle.protocol.proofs.Basics.{is_true, by_bool, or_l, or_r, or_cases, and_l, and_r}
use Rattle.orders.specs.declared.Entry.{Entry}
use Rattle.orders.specs.Order.{Order, house_of, item_of, put, ours, touches, in_house, as_said, seen_here, entry_ok, entries_ok, lists_ok, order_ok, entry_model}
use Rattle.promise.specs.Promise.{write, write_all, played, Serial, pending}
use Rattle.promise.proofs.OrderLaws.{put-still, ours-still}

-- an item that a house has
abbrev Item : Entry → Type 0
Item e = item_of e.key < 4096

abbrev pub Items : List Entry → Type 0
Items es = (e : Entry) → Memᴰ e es → Item e

entry-item : (n : ℕ) (e : Entry) → T (entry_ok n e) → Item e
entry-item n e p =
    let a = ltb (house_of e.key) n in
    let b = leb (item_of e.key) 4095 in
    let c = leb e.amount 4294967295 in
    omega (arith, leb→le (item_of e.key) 4095 (and_r a b (and_l (a && b) c p)))

entries-items : (n : ℕ) (es : List Entry) → T (entries_ok n es) → Items es
unfolding entries_ok
entries-items n [] p e k = elim k [ ]
entries-items n (x ∷ es) p e k = elim (Memᴰ.cases_cons k) [
  | inl q ↦ subst⁻¹ (λ (z : Entry). Item z) q (entry-item n x (and_l (entry_ok n x) (entries_ok n es) p))
  | inr r ↦ entries-items n es (and_r (entry_ok n x) (entries_ok n es) p) e r
]

-- the reads and writes of a valid order are of items that a house has
pub order-items : (n : ℕ) (t : Order) → T (order_ok n t) → Items t.reads × Items t.writes
unfolding lists_ok
order-items n t p =
    let rs = t.reads in
    let ws = t.writes in
    let a = leb (length rs) 16 && leb (length ws) 16 in
    let q = and_r (name_ok n t.name) (a && entries_ok n rs && entries_ok n ws) p in
    (entries-items n rs (and_r a (entries_ok n rs) (and_l (a && entries_ok n rs) (entries_ok n ws) q)), entries-items n ws (and_r (a && entries_ok n rs) (entries_ok n ws) q))

-- 4,096 shelves for each house, and the one shelf of each key
pub record Linked (a : ℕ → List ℕ) (m : ℕ → ℕ) : Type 0 where
  pub all : (h : ℕ) → length (a h) ≡ 4096
  pub same : (k : ℕ) → get_or (a (house_of k)) (item_of k) 0 ≡ m k

put-length : (h : ℕ) (e : Entry) (m : List ℕ) → length (put h e m) ≡ length m
put-length h e m = by_bool (λ b. length (cond b (set m (item_of e.key) e.amount) m) ≡ length m) (eqb (house_of e.key) h) (λ _. length-set m (item_of e.key) e.amount) (λ _. refl)

ours-length : (h : ℕ) (es : List Entry) (m : List ℕ) → length (ours h es m) ≡ length m
ours-length h [] m = refl
ours-length h (e ∷ es) m = ours-length h es (put h e m) ∙ put-length h e m

put-write : (e : Entry) (m : List ℕ) (m' : ℕ → ℕ) (k : ℕ) → length m ≡ 4096 → Item e → get_or m (item_of k) 0 ≡ m' k → get_or (put (house_of k) e m) (item_of k) 0 ≡ write e m' k
put-write e m m' k l i p =
    by_bool (λ b. get_or (put (house_of k) e m) (item_of k) 0 ≡ cond b e.amount (m' k)) (eqb k e.key)
    (λ t.
    let q : e.key ≡ k = sym (eqb→eq k e.key t) in
    let here : T (eqb (house_of e.key) (house_of k)) = subst⁻¹ (λ (z : ℕ). T (eqb (house_of z) (house_of k))) q (eqb_refl (house_of k)) in
    ap (λ (b : Bool). get_or (cond b (set m (item_of e.key) e.amount) m) (item_of k) 0) (is_true (eqb (house_of e.key) (house_of k)) here)
    ∙ ap (λ (z : ℕ). get_or (set m (item_of z) e.amount) (item_of k) 0) q
    ∙ get_or-set_same m (item_of k) e.amount 0 (subst (λ (z : ℕ). item_of z < length m) q (omega (arith, l, i))))
    (λ n. put-still (house_of k) e m k refl (λ t. n (subst⁻¹ (λ (z : ℕ). T (eqb k z)) (eqb→eq e.key k t) (eqb_refl k))) ∙ p)

ours-write : (es : List Entry) (m : List ℕ) (m' : ℕ → ℕ) (k : ℕ) → length m ≡ 4096 → Items es → get_or m (item_of k) 0 ≡ m' k → get_or (ours (house_of k) es m) (item_of k) 0 ≡ write_all es m' k
unfolding write_all
ours-write [] m m' k l i p = p
ours-write (e ∷ es) m m' k l i p =
    ours-write es (put (house_of k) e m) (write e m') k (put-length (house_of k) e m ∙ l) (λ x q. i x (Memᴰ.tail q)) (put-write e m m' k l (i e (Memᴰ.head refl)) p)

linked-do : (t : Order) (a : ℕ → List ℕ) (m : ℕ → ℕ) → Items t.writes → Linked a m → Linked (do_all entry_model t a) (write_all t.writes m)
linked-do t a m i l = record {
  all = λ h. ours-length h t.writes (a h) ∙ l.all h;
  same = λ k. ours-write t.writes (a (house_of k)) m k (l.all (house_of k)) i (l.same k);
}

-- every order is of items that a house has
abbrev pub AllItems : List Order → Type 0
AllItems ts = (t : Order) → Memᴰ t ts → Items t.reads × Items t.writes

pub linked-played : (ts : List Order) (a : ℕ → List ℕ) (m : ℕ → ℕ) → AllItems ts → Linked a m → Linked (played_all entry_model a ts) (played m ts)
unfolding played_all played
linked-played [] a m i l = l
linked-played (t ∷ ts) a m i l = linked-played ts (do_all entry_model t a) (write_all t.writes m) (λ u k. i u (Memᴰ.tail k)) (linked-do t a m (i t (Memᴰ.head refl)).1 l)

in-house : (e : Entry) (es : List Entry) → Memᴰ e es → T (in_house (house_of e.key) es)
in-house e [] k = elim k [ ]
in-house e (x ∷ es) k = elim (Memᴰ.cases_cons k) [
  | inl q ↦ or_l _ _ (subst (λ (z : Entry). T (eqb (house_of z.key) (house_of e.key))) q (eqb_refl (house_of e.key)))
  | inr r ↦ or_r (eqb (house_of x.key) (house_of e.key)) _ (in-house e es r)
]

said : (h : ℕ) (e : Entry) (m : List ℕ) → T (as_said h m e) → house_of e.key ≡ h → get_or m (item_of e.key) 0 ≡ e.amount
said h e m q p = elim (or_cases (not (eqb (house_of e.key) h)) (eqb (get_or m (item_of e.key) 0) e.amount) q) [
  | inl n ↦ absurd (T_not (eqb (house_of e.key) h) n (subst⁻¹ (λ (z : ℕ). T (eqb z h)) p (eqb_refl h)))
  | inr y ↦ eqb→eq (get_or m (item_of e.key) 0) e.amount y
]

seen_at : (h : ℕ) (es : List Entry) (m : List ℕ) → T (seen_here h es m) → (e : Entry) → Memᴰ e es → house_of e.key ≡ h → get_or m (item_of e.key) 0 ≡ e.amount
seen_at h [] m q e k p = elim k [ ]
seen_at h (x ∷ es) m q e k p = elim (Memᴰ.cases_cons k) [
  | inl d ↦ said h e m (subst⁻¹ (λ (z : Entry). T (as_said h m z)) d (and_l (as_said h m x) (seen_here h es m) q)) p
  | inr r ↦ seen_at h es m (and_r (as_said h m x) (seen_here h es m) q) e r p
]

pub linked-serial : (ts : List Order) (a : ℕ → List ℕ) (m : ℕ → ℕ) → AllItems ts → Linked a m → SerialAll entry_model a ts → Serial m ts
unfolding SerialAll Serial
linked-serial [] a m i l q = tt
linked-serial (t ∷ ts) a m i l q = (
  λ e k. sym (l.same e.key) ∙ seen_at (house_of e.key) t.reads (a (house_of e.key)) (q.0 (house_of e.key) (or_l _ _ (in-house e t.reads k))) e k refl,
  linked-serial ts (do_all entry_model t a) (write_all t.writes m) (λ u k. i u (Memᴰ.tail k)) (linked-do t a m (i t (Memᴰ.head refl)).1 l) q.1,
)

-- where nothing that is held back writes, doing what is ruled of it changes nothing
pub settle-still : (h : ℕ) (ds us : List Order) (m : List ℕ) (k : ℕ) → house_of k ≡ h → (T (pending k us) → ⊥) → get_or (settle entry_model h ds us m) (item_of k) 0 ≡ get_or m (item_of k) 0
unfolding settle pending
settle-still h ds [] m k a n = refl
settle-still h ds (u ∷ us) m k a n =
    settle-still h ds us _ k a (λ q. n (or_r (touches k u.writes) _ q))
    ∙ by_bool (λ b. get_or (cond b (ours h u.writes m) m) (item_of k) 0 ≡ get_or m (item_of k) 0) _ (λ _. ours-still h u.writes m k a (λ q. n (or_l _ _ q))) (λ _. refl)
