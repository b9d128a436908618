-- How steps leave the host and the tie between the live state and the file, over plain variables.
use Rattle.std.proofs.Common.{◌≡◌, ℕ, Bool, true, false, ◌&&◌, ◌||◌, T, List, [], ◌∷◌, ◌++◌, length, take, Ok, sym, refl, ap, ◌∙◌, subst, inl, inr, append-nil, arith, length-append, take_all}
use mathlib.Core.Path.{subst⁻¹}
use mathlib.Core.Bool.{or-false}
use lib.Seq.{take-append-le}
use Rattle.std.proofs.lemmas.List.{length_push}
use Rattle.protocol.specs.declared.Name.{Name}
use Rattle.protocol.specs.Model.{same_name}
use Rattle.protocol.specs.House.{Held, Ruled, ever_held, ruled, is_in, is_held, is_ruled}
use Rattle.protocol.specs.Net.{Yes, Told}
use Rattle.protocol.specs.State.{State, state_of, apply, replay}
use Rattle.protocol.specs.Plan.{Verdict, does, Output, speak, is_held_back}
use Rattle.protocol.proofs.Basics.{is_true, and_l, or_cases, or_l, or_r, snoc-last}
use Rattle.protocol.proofs.Held.{ever-of-in, ever-of-mem, ruled-of-mem}
use Rattle.protocol.proofs.Replays.{state-snoc, ever-snoc, ruled-snoc}
use Rattle.orders.specs.Order.{Order, Rec, Msg, same_order, same_entries, entry_model}
use Rattle.orders.specs.Encode.{rec_bytes}
use Rattle.orders.specs.File.{all_bytes}
use Rattle.orders.proofs.Files.{bytes-snoc}
use Rattle.steps.specs.Hosts.{World, Backed, on_disk, spoken, performed}
use Rattle.steps.specs.Stepped.{Stepped}
use Rattle.steps.specs.Ties.{Tied}

of-true : (b : Bool) → b ≡ true → T b
of-true b e = subst⁻¹ (λ (x : Bool). T x) e tt

-- an order that is held back is there by its name
named : (t : Order) (us : List Order) → T (is_held_back entry_model t us) → T (is_in entry_model t.name us)
unfolding is_held_back is_in
named t [] k = elim k [ ]
named t (u ∷ us) k = elim (or_cases (same_order t u) (is_held_back entry_model t us) k) [
  | inl q ↦ or_l _ _ (and_l (same_name t.name u.name) (same_entries t.reads u.reads) (and_l (same_name t.name u.name && same_entries t.reads u.reads) (same_entries t.writes u.writes) q))
  | inr r ↦ or_r (same_name t.name u.name) _ (named t us r)
]

-- WHAT BACKS A MESSAGE

-- an order that is held back was held durably
pub again-backed : (i j : ℕ) (w : World) (v : State entry_model) (t : Order) → Tied i w v → is_held_back entry_model t v.held ≡ true → Backed (Yes j t.name) (on_disk w)
again-backed i j w v t q e =
    let k : T (is_held_back entry_model t (state_of entry_model i q.log).held) = of-true _ (ap (λ (u : State entry_model). is_held_back entry_model t u.held) (sym q.state) ∙ e) in
    (take q.kept q.log, q.disk, q.held t.name (is_true _ (ever-of-in entry_model q.log t.name (named t _ k))))

-- a held record at the end of the file backs its yes
pub fresh-backed : (i j : ℕ) (w : World) (v : State entry_model) (t : Order) → Tied i w v → Backed (Yes j t.name) (w.file ++ rec_bytes (Held t))
fresh-backed i j w v t q = (q.log ++ (Held t ∷ []), ap (λ (bs : List ℕ). bs ++ rec_bytes (Held t)) q.file ∙ sym (bytes-snoc q.log (Held t)), is_true _ (ever-of-mem entry_model (q.log ++ (Held t ∷ [])) t (snoc-last q.log (Held t))))

-- a ruled record at the end of the file backs what is told
pub rule-backed : (i : ℕ) (w : World) (v : State entry_model) (t : Order) → Tied i w v → Backed (Told t.name true) (w.file ++ rec_bytes (Ruled t))
rule-backed i w v t q = (q.log ++ (Ruled t ∷ []), ap (λ (bs : List ℕ). bs ++ rec_bytes (Ruled t)) q.file ∙ sym (bytes-snoc q.log (Ruled t)), is_true _ (ruled-of-mem entry_model (q.log ++ (Ruled t ∷ [])) t (snoc-last q.log (Ruled t))))

-- an order that is ruled was ruled durably
pub ruled-backed : (i : ℕ) (w : World) (v : State entry_model) (d : Name) → Tied i w v → v.ruled d ≡ true → Backed (Told d true) (on_disk w)
ruled-backed i w v d q e = (take q.kept q.log, q.disk, q.rules d (ap (λ (u : State entry_model). u.ruled d) (sym q.state) ∙ e))

-- STEPS THAT ONLY SPEAK

speaks : (ms : List Msg) (x : World) → spoken ms x ≡ performed (speak entry_model ms) x
speaks ms x = λ k. record { file = sym (append-nil x.file) k; durable = x.durable; sent = x.sent ++ ms }

pub spoken-step : (i : ℕ) (p : Verdict (Output entry_model)) (ms : List Msg) (x y : World) (v : State entry_model) → does (speak entry_model ms) ≡ p → y ≡ spoken ms x → Stepped i p x y v v (Ok tt)
unfolding replay
spoken-step i p ms x y v e s = subst (λ (q : Verdict (Output entry_model)). Stepped i q x y v v (Ok tt)) e (refl, s ∙ speaks ms x, refl)

pub spoken-tied : (i : ℕ) (ms : List Msg) (x y : World) (v : State entry_model) → y ≡ spoken ms x → Tied i x v → Tied i y v
spoken-tied i ms x y v s q = subst⁻¹ (λ (w : World). Tied i w v) s
    (record { log = q.log; kept = q.kept; few = q.few; within = q.within; file = q.file; disk = q.disk; state = q.state; held = q.held; rules = q.rules })

-- STEPS THAT COMMIT A RECORD

abbrev pub commit : Rec → Msg → Output entry_model
commit r m = record { adds = r ∷ []; syncs = true; sends = m ∷ [] }

pub commit-step : (i : ℕ) (p : Verdict (Output entry_model)) (r : Rec) (m : Msg) (x y : World) (v u : State entry_model) → does (commit r m) ≡ p → y ≡ performed (commit r m) x → u ≡ apply entry_model i r v → Stepped i p x y v u (Ok tt)
unfolding replay
commit-step i p r m x y v u e s a = subst (λ (q : Verdict (Output entry_model)). Stepped i q x y v u (Ok tt)) e (refl, s, a)

state-more : (i : ℕ) (rs : List Rec) (r : Rec) (v u : State entry_model) → v ≡ state_of entry_model i rs → u ≡ apply entry_model i r v → u ≡ state_of entry_model i (rs ++ (r ∷ []))
state-more i rs r v u e a = a ∙ ap (λ (x : State entry_model). apply entry_model i r x) e ∙ sym (state-snoc entry_model i rs r)

file-more : (rs : List Rec) (r : Rec) (bs : List ℕ) → bs ≡ all_bytes rs → bs ++ (rec_bytes r ++ []) ≡ all_bytes (rs ++ (r ∷ []))
file-more rs r bs e = ap (λ (ys : List ℕ). bs ++ ys) (append-nil (rec_bytes r)) ∙ ap (λ (ys : List ℕ). ys ++ rec_bytes r) e ∙ sym (bytes-snoc rs r)

pub commit-tied : (i : ℕ) (r : Rec) (m : Msg) (x y : World) (v u : State entry_model) → y ≡ performed (commit r m) x → u ≡ apply entry_model i r v → Tied i x v → Tied i y u
commit-tied i r m x y v u s a q =
    let log = q.log ++ (r ∷ []) in
    let f = x.file ++ all_bytes (r ∷ []) in
    let whole : take (length log) log ≡ log = take_all (length log) log (omega arith) in
    subst⁻¹ (λ (w : World). Tied i w u) s (record {
      log = log;
      kept = length log;
      few = omega arith;
      within = omega arith;
      file = file-more q.log r x.file q.file;
      disk = take_all (length f) f (omega arith) ∙ file-more q.log r x.file q.file ∙ ap (λ (rs : List Rec). all_bytes rs) (sym whole);
      state = state-more i q.log r v u q.state a;
      held = λ d e. ap (λ (rs : List Rec). ever_held entry_model d rs) whole ∙ e;
      rules = λ d e. ap (λ (rs : List Rec). ruled entry_model d rs) whole ∙ e;
    })

-- STEPS THAT NOTE A RECORD, which is neither held nor ruled, without a sync

abbrev pub note : Rec → Output entry_model
note r = record { adds = r ∷ []; syncs = false; sends = [] }

pub note_step : (i : ℕ) (p : Verdict (Output entry_model)) (r : Rec) (x y : World) (v u : State entry_model) → does (note r) ≡ p → y ≡ performed (note r) x → u ≡ apply entry_model i r v → Stepped i p x y v u (Ok tt)
unfolding replay
note_step i p r x y v u e s a = subst (λ (q : Verdict (Output entry_model)). Stepped i q x y v u (Ok tt)) e (refl, s, a)

or-none : (a b : Bool) → b ≡ false → a || b ≡ a
or-none a b e = ap (λ (c : Bool). a || c) e ∙ or-false a

pub note-tied : (i : ℕ) (r : Rec) (x y : World) (v u : State entry_model) → ((d : Name) → is_held entry_model d r ≡ false) → ((d : Name) → is_ruled entry_model d r ≡ false) →
    y ≡ performed (note r) x → u ≡ apply entry_model i r v → Tied i x v → Tied i y u
note-tied i r x y v u nh nr s a q =
    let log = q.log ++ (r ∷ []) in
    let first : take q.kept log ≡ take q.kept q.log = take-append-le q.kept q.log (r ∷ []) q.few in
    subst⁻¹ (λ (w : World). Tied i w u) s (record {
      log = log;
      kept = q.kept;
      few = omega (arith, q.few, length_push q.log r);
      within = omega (arith, q.within, length-append x.file (all_bytes (r ∷ [])));
      file = file-more q.log r x.file q.file;
      disk = take-append-le x.durable x.file (all_bytes (r ∷ [])) q.within ∙ q.disk ∙ ap (λ (rs : List Rec). all_bytes rs) (sym first);
      state = state-more i q.log r v u q.state a;
      held = λ d e. ap (λ (rs : List Rec). ever_held entry_model d rs) first ∙ q.held d (sym (ever-snoc entry_model i d q.log r ∙ or-none (ever_held entry_model d q.log) (is_held entry_model d r) (nh d)) ∙ e);
      rules = λ d e. ap (λ (rs : List Rec). ruled entry_model d rs) first ∙ q.rules d (sym (ruled-snoc entry_model i d q.log r ∙ or-none (ruled entry_model d q.log) (is_ruled entry_model d r) (nr d)) ∙ e);
    })
