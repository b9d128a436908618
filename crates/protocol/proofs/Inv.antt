-- What every reachable network keeps to.
use mathlib.Core.Path.{◌≡◌, refl, sym, ◌∙◌, subst, subst⁻¹, fun_ext}
use mathlib.Core.Logic.{◌⊎◌, inl, inr}
use mathlib.Core.Bool.{Bool, true, false, cond}
use mathlib.Core.List.Memᴰ
use mathlib.Core.List.{List, [], ◌∷◌, ◌++◌, Memᴰ}
use Prim.Native.Nat.{ℕ, ◌+◌, ◌≤◌, ◌<◌}
use native.Mathlib.Omega.{arith}
use native.Mathlib.Decide.{dec_le}
use lib.Dec.{T, eqb, eqb→eq, eqb_refl}
use lib.ListN.{length, take, length-append}
use lib.Seq.{take_all, take-append-le}
use Rattle.protocol.specs.declared.Name.{Name}
use Rattle.protocol.specs.Model.{Model, played_all, SerialAll}
use Rattle.protocol.specs.Laws.{Laws}
use Rattle.protocol.specs.House.{Rec, Began, Held, Done, Dropped, Ruled, starts, holding, stock, is_in}
use Rattle.protocol.specs.Net.{Asking, House, Msg, Hold, Yes, Told, Net, at, wrote}
use Rattle.protocol.proofs.Basics.{by_bool, is_true}
use Rattle.protocol.proofs.Held.{Distinct}
use Rattle.protocol.specs.Sound.{settle}
use Rattle.protocol.proofs.Asks.{about, OnceAsked}

-- records that are on the disk for good as soon as they are written
abbrev pub Hard : {M : Model} → Rec M → Type 0
Hard Began = Unit {0}
Hard (Held t) = Unit {0}
Hard (Done d) = ⊥
Hard (Dropped d) = ⊥
Hard (Ruled t) = Unit {0}

-- f is what the house's file may be after a stop
abbrev pub Kept : {M : Model} → House M → List (Rec M) → Type 0
Kept h f = (k : ℕ) × (h.durable ≤ k) × (f ≡ take k h.file)

-- a name that the house gave away: of an earlier start, or tried in this one
abbrev pub Past : {M : Model} → House M → Name → Type 0
Past {M} h d = (d.start < starts M h.file) ⊎ ((d.start ≡ starts M h.file) × T (h.memory.tried d))

-- what a record says
abbrev pub RecOk : {M : Model} → List (Msg M) → List M.Order → ℕ → Rec M → Type 0
RecOk {M} ms ds j Began = Unit {0}
RecOk {M} ms ds j (Held t) = Memᴰ (Hold t) ms × T (M.party j t)
RecOk {M} ms ds j (Done d) = T (is_in M d ds)
RecOk {M} ms ds j (Dropped d) = Memᴰ (Told d false) ms
RecOk {M} ms ds j (Ruled t) = Memᴰ t ds

-- what a message says
abbrev pub ToldOk : {M : Model} → (ℕ → House M) → List M.Order → Name → Bool → Type 0
ToldOk {M} hs ds d true = T (is_in M d ds)
ToldOk {M} hs ds d false = (T (is_in M d ds) → ⊥) × Past (hs d.home) d

abbrev pub MsgOk : {M : Model} → ℕ → (ℕ → House M) → List M.Order → Msg M → Type 0
MsgOk {M} n hs ds (Hold t) = ((M.name t).home < n) × Past (hs (M.name t).home) (M.name t)
MsgOk {M} n hs ds (Yes j d) = (t : M.Order) × (M.name t ≡ d) × Memᴰ (Held t) (hs j).file
MsgOk {M} n hs ds (Told d b) = ToldOk hs ds d b

-- an order that house j asks about, in its start b
pub record AskOk (M : Model) (ms : List (Msg M)) (ds : List M.Order) (j b : ℕ) (a : Asking M) : Type 0 where
  pub known : Memᴰ (Hold a.order) ms
  pub home : (M.name a.order).home ≡ j
  pub start : (M.name a.order).start ≡ b
  pub yeses : (i : ℕ) → T (a.yes i) → Memᴰ (Yes i (M.name a.order)) ms
  pub unruled : T (is_in M (M.name a.order) ds) → ⊥
  pub undenied : Memᴰ (Told (M.name a.order) false) ms → ⊥

-- an order ruled done
pub record DoneOk (M : Model) (hs : ℕ → House M) (ms : List (Msg M)) (t : M.Order) : Type 0 where
  pub known : Memᴰ (Hold t) ms
  pub on_file : Memᴰ (Ruled t) (hs (M.name t).home).file
  pub held : (j : ℕ) → T (M.party j t) → Memᴰ (Held t) (hs j).file

-- what house j's file may be after a stop: nothing hard is lost, what is held back fits, and the shelves with what is held back and ruled are what the rulings left
pub record Good (M : Model) (L : Laws M) (ds : List M.Order) (j : ℕ) (full f : List (Rec M)) : Type 0 where
  pub began : starts M f ≡ starts M full
  pub hard : (r : Rec M) → Hard r → Memᴰ r full → Memᴰ r f
  pub within : (r : Rec M) → Memᴰ r f → Memᴰ r full
  pub apart : Distinct M (holding M [] f)
  pub fits : L.Fit j (holding M [] f) (stock M j f)
  pub level : settle M j ds (holding M [] f) (stock M j f) ≡ played_all M (λ i. M.empty) ds j

abbrev pub Once : {M : Model} → List (Msg M) → Type 0
Once {M} ms = (t u : M.Order) → Memᴰ (Hold t) ms → Memᴰ (Hold u) ms → M.name t ≡ M.name u → t ≡ u

-- some order of that name was asked about
abbrev pub KnownName : {M : Model} → List (Msg M) → Name → Type 0
KnownName {M} ms d = (t : M.Order) × Memᴰ (Hold t) ms × (M.name t ≡ d)

pub known_more : (M : Model) (ms ns : List (Msg M)) (d : Name) → ((m : Msg M) → Memᴰ m ms → Memᴰ m ns) → KnownName ms d → KnownName ns d
known_more M ms ns d f k = (k.0, f _ k.1, k.2)

pub record Inv (M : Model) (L : Laws M) (n : ℕ) (s : Net M) : Type 0 where
  pub once : Once s.sent
  pub msgs : (m : Msg M) → Memᴰ m s.sent → MsgOk n s.house s.done m
  pub dones : (t : M.Order) → Memᴰ t s.done → DoneOk M s.house s.sent t
  pub serial : SerialAll M (λ i. M.empty) s.done
  pub recs : (j : ℕ) (r : Rec M) → Memᴰ r (s.house j).file → RecOk s.sent s.done j r
  pub asks : (j : ℕ) (a : Asking M) → Memᴰ a (s.house j).memory.asking → AskOk M s.sent s.done j (starts M (s.house j).file) a
  pub ask_once : (j : ℕ) → OnceAsked M (s.house j).memory.asking
  pub tries : (j : ℕ) (d : Name) → T ((s.house j).memory.tried d) → KnownName s.sent d
  pub good : (j : ℕ) (f : List (Rec M)) → Kept (s.house j) f → Good M L s.done j (s.house j).file f

module _ (M : Model) where
  pub kept_full : (h : House M) → Kept h h.file
  kept_full h = (h.durable + length h.file, omega arith, sym (take_all (h.durable + length h.file) h.file (omega arith)))

  pub kept-all : (h : House M) → length h.file ≤ h.durable → (f : List (Rec M)) → Kept h f → f ≡ h.file
  kept-all h e f w = w.2 ∙ take_all w.0 h.file (omega (arith, w.1))

  pub length-snoc : (f : List (Rec M)) (r : Rec M) → length (f ++ (r ∷ [])) ≡ length f + 1
  length-snoc f r = length-append f (r ∷ [])

  pub kept-wrote : (h : House M) (r : Rec M) (f : List (Rec M)) → Kept (wrote M r true h) f → f ≡ h.file ++ (r ∷ [])
  kept-wrote h r f w = kept-all (wrote M r true h) (omega (arith, length-snoc h.file r)) f w

  pub kept-added : (h : House M) (r : Rec M) (f : List (Rec M)) → Kept (wrote M r false h) f → Kept h f ⊎ (f ≡ h.file ++ (r ∷ []))
  kept-added h r f w = elim (dec_le w.0 (length h.file)) [
    | yes l ↦ inl (w.0, w.1, w.2 ∙ take-append-le w.0 h.file (r ∷ []) l)
    | no g ↦ inr (w.2 ∙ take_all w.0 (h.file ++ (r ∷ [])) (omega (arith, length-snoc h.file r)))
  ]

  pub at_all : (P : ℕ → House M → Type 0) (i : ℕ) (h : House M) (hs : ℕ → House M) → P i h → ((j : ℕ) → (j ≡ i → ⊥) → P j (hs j)) → (j : ℕ) → P j (at M i h hs j)
  at_all P i h hs p q j =
      by_bool (λ b. P j (cond b h (hs j))) (eqb j i) (λ t. subst⁻¹ (λ (x : ℕ). P x h) (eqb→eq j i t) p) (λ n. q j (λ e. n (subst⁻¹ (λ (x : ℕ). T (eqb x i)) e (eqb_refl i))))

  pub at_here : (i : ℕ) (h : House M) (hs : ℕ → House M) → at M i h hs i ≡ h
  at_here i h hs = rw (is_true (eqb i i) (eqb_refl i))

  pub at_self : (i : ℕ) (hs : ℕ → House M) → at M i (hs i) hs ≡ hs
  at_self i hs = fun_ext (λ j. at_all (λ j h. h ≡ hs j) i (hs i) hs refl (λ j n. refl) j)

  -- messages of different kinds are different
  abbrev IsHold : Msg M → M.Order → Type 0
  IsHold (Hold t) u = u ≡ t
  IsHold (Yes j d) u = ⊥
  IsHold (Told d b) u = ⊥

  abbrev IsNo : Name → Msg M → Type 0
  IsNo d (Hold t) = ⊥
  IsNo d (Yes i e) = ⊥
  IsNo d (Told e b) = (d ≡ e) × (b ≡ false)

  pub new-hold : (m : Msg M) (ms : List (Msg M)) (u : M.Order) → Memᴰ (Hold u) (m ∷ ms) → IsHold m u ⊎ Memᴰ (Hold u) ms
  new-hold m ms u k = elim (Memᴰ.cases_cons k) [ inl e ↦ inl (subst (λ (x : Msg M). IsHold x u) e refl) | inr r ↦ inr r ]

  pub new-no : (m : Msg M) (ms : List (Msg M)) (d : Name) → Memᴰ (Told d false) (m ∷ ms) → IsNo d m ⊎ Memᴰ (Told d false) ms
  new-no m ms d k = elim (Memᴰ.cases_cons k) [ inl e ↦ inl (subst (λ (x : Msg M). IsNo d x) e (refl, refl)) | inr r ↦ inr r ]

  pub rec-more : (ms ms' : List (Msg M)) (ds : List M.Order) (j : ℕ) (r : Rec M) → ((m : Msg M) → Memᴰ m ms → Memᴰ m ms') → RecOk ms ds j r → RecOk ms' ds j r
  rec-more ms ms' ds j Began f k = tt
  rec-more ms ms' ds j (Held t) f k = (f (Hold t) k.0, k.1)
  rec-more ms ms' ds j (Done d) f k = k
  rec-more ms ms' ds j (Dropped d) f k = f (Told d false) k
  rec-more ms ms' ds j (Ruled t) f k = k

  pub ask-more : (ms ms' : List (Msg M)) (ds : List M.Order) (j b : ℕ) (a : Asking M) → ((m : Msg M) → Memᴰ m ms → Memᴰ m ms') →
      (Memᴰ (Told (about M a) false) ms' → Memᴰ (Told (about M a) false) ms) → AskOk M ms ds j b a → AskOk M ms' ds j b a
  ask-more ms ms' ds j b a f g k = record {
    known = f _ k.known;
    home = k.home;
    start = k.start;
    yeses = λ i y. f _ (k.yeses i y);
    unruled = k.unruled;
    undenied = λ x. k.undenied (g x);
  }

  told-houses : (hs hs' : ℕ → House M) (ds : List M.Order) (d : Name) (b : Bool) → ((j : ℕ) (e : Name) → Past (hs j) e → Past (hs' j) e) → ToldOk hs ds d b → ToldOk hs' ds d b
  told-houses hs hs' ds d true p k = k
  told-houses hs hs' ds d false p k = (k.0, p d.home d k.1)

  pub msg-houses : (n : ℕ) (hs hs' : ℕ → House M) (ds : List M.Order) (m : Msg M) → ((j : ℕ) (d : Name) → Past (hs j) d → Past (hs' j) d) →
      ((j : ℕ) (r : Rec M) → Hard r → Memᴰ r (hs j).file → Memᴰ r (hs' j).file) → MsgOk n hs ds m → MsgOk n hs' ds m
  msg-houses n hs hs' ds (Hold t) p q k = (k.0, p _ _ k.1)
  msg-houses n hs hs' ds (Yes j d) p q k = (k.0, k.1, q j (Held k.0) tt k.2)
  msg-houses n hs hs' ds (Told d b) p q k = told-houses hs hs' ds d b p k

-- one house changes, and messages may be sent
pub record Change (M : Model) (L : Laws M) (n : ℕ) (s : Net M) (i : ℕ) (h : House M) (ms : List (Msg M)) : Type 0 where
  pub more : (m : Msg M) → Memᴰ m s.sent → Memᴰ m ms
  pub fresh : (m : Msg M) → Memᴰ m ms → Memᴰ m s.sent ⊎ MsgOk n (at M i h s.house) s.done m
  pub once : Once ms
  pub nos : (j : ℕ) (a : Asking M) → (j ≡ i → ⊥) → Memᴰ a (s.house j).memory.asking → Memᴰ (Told (about M a) false) ms → Memᴰ (Told (about M a) false) s.sent
  pub past : (d : Name) → Past (s.house i) d → Past h d
  pub hard : (r : Rec M) → Hard r → Memᴰ r (s.house i).file → Memᴰ r h.file
  pub recs : (r : Rec M) → Memᴰ r h.file → RecOk ms s.done i r
  pub asks : (a : Asking M) → Memᴰ a h.memory.asking → AskOk M ms s.done i (starts M h.file) a
  pub ask_once : OnceAsked M h.memory.asking
  pub tries : (d : Name) → T (h.memory.tried d) → KnownName ms d
  pub good : (f : List (Rec M)) → Kept h f → Good M L s.done i h.file f

module _ (M : Model) (L : Laws M) (n : ℕ) (s : Net M) (i : ℕ) (h : House M) where
  abbrev after : List (Msg M) → List M.Order → Net M
  after ms ds = record { house = at M i h s.house; sent = ms; done = ds }

  pub past-at : ((d : Name) → Past (s.house i) d → Past h d) → (j : ℕ) (d : Name) → Past (s.house j) d → Past (at M i h s.house j) d
  past-at p j d = at_all M (λ j x. Past (s.house j) d → Past x d) i h s.house (p d) (λ j e k. k) j

  pub hard-at : ((r : Rec M) → Hard r → Memᴰ r (s.house i).file → Memᴰ r h.file) →
      (j : ℕ) (r : Rec M) → Hard r → Memᴰ r (s.house j).file → Memᴰ r (at M i h s.house j).file
  hard-at q j r g = at_all M (λ j x. Memᴰ r (s.house j).file → Memᴰ r x.file) i h s.house (q r g) (λ j e k. k) j

  pub change : (ms : List (Msg M)) → Inv M L n s → Change M L n s i h ms → Inv M L n (after ms s.done)
  change ms v c = record {
    once = c.once;
    msgs = λ m k. elim (c.fresh m k) [ inl o ↦ msg-houses M n s.house (at M i h s.house) s.done m (past-at c.past) (hard-at c.hard) (v.msgs m o) | inr o ↦ o ];
    dones = λ t k. let w = v.dones t k in record {
      known = c.more _ w.known;
      on_file = hard-at c.hard _ (Ruled t) tt w.on_file;
      held = λ j p. hard-at c.hard j (Held t) tt (w.held j p);
    };
    serial = v.serial;
    recs = at_all M (λ j x. (r : Rec M) → Memᴰ r x.file → RecOk ms s.done j r) i h s.house c.recs
        (λ j e r k. rec-more M s.sent ms s.done j r c.more (v.recs j r k));
    asks = at_all M (λ j x. (a : Asking M) → Memᴰ a x.memory.asking → AskOk M ms s.done j (starts M x.file) a) i h s.house c.asks
        (λ j e a k. ask-more M s.sent ms s.done j _ a c.more (c.nos j a e k) (v.asks j a k));
    ask_once = at_all M (λ j x. OnceAsked M x.memory.asking) i h s.house c.ask_once (λ j e. v.ask_once j);
    tries = at_all M (λ j x. (d : Name) → T (x.memory.tried d) → KnownName ms d) i h s.house c.tries (λ j e d k. known_more M s.sent ms d c.more (v.tries j d k));
    good = at_all M (λ j x. (f : List (Rec M)) → Kept x f → Good M L s.done j x.file f) i h s.house c.good (λ j e. v.good j);
  }
