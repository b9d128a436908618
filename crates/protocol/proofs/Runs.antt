-- Each step as a function is a step of the relation.
use mathlib.Core.Path.{◌≡◌, refl, sym, ap, ap₂, subst, subst⁻¹}
use mathlib.Core.Logic.{inl, inr}
use mathlib.Core.Bool.{Bool, true, false, cond, ◌&&◌, ◌||◌, not}
use mathlib.Core.List.Memᴰ
use mathlib.Core.List.{List, [], ◌∷◌, Memᴰ}
use mathlib.Core.Option.{Option, none, some}
use Prim.Native.Nat.{ℕ, ◌<◌}
use native.Mathlib.Omega.{arith}
use lib.Dec.{T, T_not, not_T, eqb, eqb→eq, ltb, ltb→lt}
use Rattle.protocol.specs.declared.Name.{Name}
use Rattle.protocol.specs.Model.{Model, same_name, houses_ok}
use Rattle.protocol.specs.Laws.{Laws}
use Rattle.protocol.specs.House.{starts, holding, stock, ever_held, ruled, is_in}
use Rattle.protocol.specs.Net.{Asking, House, Msg, Hold, Yes, Told, Net, start, at, asked, say_done, say_old, say_over, Step, submit, hold, vote, rule, give_up, answer, learn, sync, stop, yes_again, Reach, begin, then}
use Rattle.protocol.specs.State.{State, state_of, file_size}
use Rattle.protocol.specs.Plan.{Input, do_submit, do_hold, do_vote, do_rule, do_give_up, do_answer, do_learn, do_sync, Verdict, refused, does, Causes, unless, Output, Work, speak, ask_of, all_said, all_yes, is_held_back, keeping, plan, plan_new_hold, plan_rule_of, plan_give_up_of, added, unsynced, restart}
use Rattle.protocol.specs.Run.{Command, deliver, stop_at, Answer, same_msg, same_bool, was_sent, arrived, input_ok, house_ok, rulings, delivered, came_up, step, run, Moved, Faithful}
use Rattle.protocol.proofs.Basics.{by_bool, is_true, is_false, and_l, and_r, and_both, or_l, or_r, or_cases, same-eq, same_refl}
use Rattle.protocol.proofs.Inv.{at_self}

-- no cause holds
abbrev pub Clear : Causes → Type 0
Clear [] = Unit {0}
Clear (c ∷ cs) = (T c.1 → ⊥) × Clear cs

pub by-unless : {A : Type 0} (P : Verdict A → Type 0) (cs : Causes) (a : A) → ((k : ℕ) → P (refused k)) → (Clear cs → P (does a)) → P (unless cs a)
unfolding unless
by-unless P [] a f g = g tt
by-unless P (c ∷ cs) a f g = by_bool (λ b. P (cond b (refused c.0) (unless cs a))) c.1 (λ _. f c.0) (λ k. by-unless P cs a f (λ q. g (k, q)))

pub by_cond : {A : Type 0} (P : A → Type 0) (b : Bool) (x y : A) → (T b → P x) → ((T b → ⊥) → P y) → P (cond b x y)
by_cond P true x y f g = f tt
by_cond P false x y f g = g (λ t. t)

untrue : (b : Bool) → (T (not b) → ⊥) → T b
untrue true f = tt
untrue false f = f tt

module _ (M : Model) where
  pub ask-mem : (P : Option (Asking M) → Type 0) (d : Name) (qs : List (Asking M)) → P none → ((a : Asking M) → Memᴰ a qs → P (some a)) → P (ask_of M d qs)
  unfolding ask_of
  ask-mem P d [] f g = f
  ask-mem P d (a ∷ rest) f g =
      by_bool (λ b. P (cond b (some a) (ask_of M d rest))) (same_name d (M.name a.order)) (λ _. g a (Memᴰ.head refl)) (λ _. ask-mem P d rest f (λ c k. g c (Memᴰ.tail k)))

  all_said_lem : (js : List ℕ) (ks : ℕ → Bool) → T (all_said M js ks) → (j : ℕ) → Memᴰ j js → T (ks j)
  unfolding all_said
  all_said_lem [] ks p j m = elim m [ ]
  all_said_lem (i ∷ js) ks p j m = elim (Memᴰ.cases_cons m) [
    | inl e ↦ subst⁻¹ (λ (x : ℕ). T (ks x)) e (and_l (ks i) (all_said M js ks) p)
    | inr r ↦ all_said_lem js ks (and_r (ks i) (all_said M js ks) p) j r
  ]

module _ (M : Model) (L : Laws M) where
  same_bool_lem : (a b : Bool) → T (same_bool M a b) → a ≡ b
  same_bool_lem true b p = sym (is_true b p)
  same_bool_lem false b p = sym (is_false b (T_not b p))

  same-msg : (m x : Msg M) → T (same_msg M m x) → m ≡ x
  same-msg (Hold t) (Hold u) p = ap {B = Msg M} Hold (L.same-one t u p)
  same-msg (Hold t) (Yes j d) p = elim p [ ]
  same-msg (Hold t) (Told d b) p = elim p [ ]
  same-msg (Yes i c) (Hold u) p = elim p [ ]
  same-msg (Yes i c) (Yes j d) p = ap₂ {C = Msg M} Yes (eqb→eq i j (and_l (eqb i j) (same_name c d) p)) (same-eq c d (and_r (eqb i j) (same_name c d) p))
  same-msg (Yes i c) (Told d b) p = elim p [ ]
  same-msg (Told c a) (Hold u) p = elim p [ ]
  same-msg (Told c a) (Yes j d) p = elim p [ ]
  same-msg (Told c a) (Told d b) p = ap₂ {C = Msg M} Told (same-eq c d (and_l (same_name c d) (same_bool M a b) p)) (same_bool_lem a b (and_r (same_name c d) (same_bool M a b) p))

  pub sent-mem : (m : Msg M) (ms : List (Msg M)) → T (was_sent M m ms) → Memᴰ m ms
  unfolding was_sent
  sent-mem m [] p = elim p [ ]
  sent-mem m (x ∷ xs) p = elim (or_cases (same_msg M m x) (was_sent M m xs) p) [ inl q ↦ Memᴰ.head (same-msg m x q) | inr q ↦ Memᴰ.tail (sent-mem m xs q) ]

  -- an order that is held back is there by its name
  pub held-name : (t : M.Order) (us : List M.Order) → T (is_held_back M t us) → T (is_in M (M.name t) us)
  unfolding is_held_back is_in
  held-name t [] k = elim k [ ]
  held-name t (u ∷ us) k = elim (or_cases (M.same t u) (is_held_back M t us) k) [
    | inl q ↦ or_l _ _ (subst (λ (x : M.Order). T (same_name (M.name t) (M.name x))) (L.same-one t u q) (same_refl (M.name t)))
    | inr r ↦ or_r (same_name (M.name t) (M.name u)) _ (held-name t us r)
  ]

  module _ (n : ℕ) (s : Net M) (i : ℕ) (b : i < n) where
    abbrev h : House M
    h = s.house i

    abbrev Fine : Verdict (Work M) → Type 0
    Fine p = Moved M n s (delivered M i p s).0 (delivered M i p s).1

    abbrev state : State M
    state = state_of M i h.file

    -- the same of a step that keeps the memory
    abbrev Kept : Verdict (Output M) → Type 0
    Kept p = Fine (keeping M h.memory p)

    abbrev plan_no : Name → Verdict (Output M)
    plan_no d = unless ((14, not (ltb d.start state.began || (h.memory.tried d && not (asked M d h.memory.asking)))) ∷ []) (speak M (Told d false ∷ []))

    -- a house that only speaks is as it was
    speaks : (ms : List (Msg M)) → Step M n s (record { house = s.house; sent = ms; done = s.done }) → Step M n s (record { house = at M i h s.house; sent = ms; done = s.done })
    speaks ms q = subst⁻¹ (λ (hs : ℕ → House M). Step M n s (record { house = hs; sent = ms; done = s.done })) (at_self M i s.house) q

    deliver-submit : (t : M.Order) → T (M.valid n t) → Fine (plan M i (do_submit t) h)
    unfolding added rulings
    deliver-submit t ok = by-unless Fine _ _ (λ k. refl) (λ c.
        let e = untrue (eqb (M.name t).home i && eqb (M.name t).start (starts M h.file)) c.0 in
        (submit s i b t ok (eqb→eq _ _ (and_l (eqb (M.name t).home i) (eqb (M.name t).start (starts M h.file)) e)) (eqb→eq _ _ (and_r (eqb (M.name t).home i) (eqb (M.name t).start (starts M h.file)) e)) c.1.0))

    deliver-new : (t : M.Order) → Memᴰ (Hold t) s.sent → T (M.party i t) → Kept (plan_new_hold M i t state)
    unfolding added rulings
    deliver-new t k p = by-unless Kept _ _ (λ k. refl) (λ c. (hold s i b t k
        (and_both (M.party i t && not (ever_held M (M.name t) h.file)) _ (and_both (M.party i t) _ p (not_T (ever_held M (M.name t) h.file) c.0))
        (and_both (M.clear i t (holding M [] h.file) (stock M i h.file)) _ (untrue _ c.1.0) (untrue _ c.1.1.0)))))

    deliver-hold : (t : M.Order) → Memᴰ (Hold t) s.sent → Fine (plan M i (do_hold t) h)
    unfolding added rulings
    deliver-hold t k =
        by_cond Kept _ _ _ (λ _. refl) (λ p.
        by_cond Kept _ _ (plan_new_hold M i t state) (λ q. speaks _ (yes_again s i b (M.name t) (held-name t (holding M [] h.file) q))) (λ q.
        deliver-new t k (untrue (M.party i t) p)))

    deliver-vote : (j : ℕ) (d : Name) → Memᴰ (Yes j d) s.sent → Fine (plan M i (do_vote j d) h)
    unfolding added rulings
    deliver-vote j d k = by-unless Fine _ _ (λ k. refl) (λ c. (vote s i j b d k))

    deliver-rule : (d : Name) → Fine (plan M i (do_rule d) h)
    unfolding added rulings
    deliver-rule d = ask-mem M (λ o. Fine (plan_rule_of M o state.bytes h.memory)) d h.memory.asking refl (λ a k. by-unless Fine _ _ (λ k. refl) (λ c.
        (rule s i b a k (λ j p. all_said_lem M (M.houses a.order) a.yes (untrue (all_yes M a) c.0) j (L.party-houses j a.order p)))))

    deliver-give_up : (d : Name) → Fine (plan M i (do_give_up d) h)
    unfolding added rulings
    deliver-give_up d = ask-mem M (λ o. Fine (plan_give_up_of M o h.memory)) d h.memory.asking refl (λ a k. (give_up s i b a k))

    deliver-no : (d : Name) → d.home ≡ i → (T (ruled M d h.file) → ⊥) → Kept (plan_no d)
    unfolding added rulings
    deliver-no d e q = by-unless Kept _ _ (λ k. refl) (λ c.
        elim (or_cases (ltb d.start (starts M h.file)) _ (untrue _ c.0)) [
          | inl x ↦ speaks _ ((answer s i b d e false (say_old (ltb→lt _ _ x) q)))
          | inr x ↦ speaks _ ((answer s i b d e false
              (say_over (and_l (h.memory.tried d) (not (asked M d h.memory.asking)) x) (T_not (asked M d h.memory.asking) (and_r (h.memory.tried d) (not (asked M d h.memory.asking)) x)) q)))
        ])

    deliver-answer : (d : Name) → Fine (plan M i (do_answer d) h)
    unfolding added rulings
    deliver-answer d =
        by_cond Kept _ _ _ (λ _. refl) (λ p.
        let e = eqb→eq d.home i (untrue (eqb d.home i) p) in
        by_cond Kept _ _ (plan_no d) (λ q. speaks _ ((answer s i b d e true (say_done q)))) (λ q. deliver-no d e q))

    deliver-learn : (d : Name) (c : Bool) → Memᴰ (Told d c) s.sent → Fine (plan M i (do_learn d c) h)
    unfolding added rulings
    deliver-learn d true k = by-unless Kept _ _ (λ k. refl) (λ c. (learn s i b d true k (untrue _ c.0)))
    deliver-learn d false k = by-unless Kept _ _ (λ k. refl) (λ c. (learn s i b d false k (untrue _ c.0)))

    deliver-fine : (x : Input M) → T (arrived M x s.sent) → T (input_ok M n x) → Fine (plan M i x h)
    unfolding added rulings
    deliver-fine (do_submit t) k ok = deliver-submit t ok
    deliver-fine (do_hold t) k ok = deliver-hold t (sent-mem (Hold t) s.sent k)
    deliver-fine (do_vote j d) k ok = deliver-vote j d (sent-mem (Yes j d) s.sent k)
    deliver-fine (do_rule d) k ok = deliver-rule d
    deliver-fine (do_give_up d) k ok = deliver-give_up d
    deliver-fine (do_answer d) k ok = deliver-answer d
    deliver-fine (do_learn d c) k ok = deliver-learn d c (sent-mem (Told d c) s.sent k)
    deliver-fine do_sync k ok = (sync s i b)

    came_up-fine : (k : ℕ) → Moved M n s (came_up M i (restart M k h) s).0 (came_up M i (restart M k h) s).1
    came_up-fine k = by-unless (λ p. Moved M n s (came_up M i p s).0 (came_up M i p s).1) _ _ (λ k. refl) (λ c. stop s i b _ (omega arith))

  house-below : (n i : ℕ) → T (house_ok M n i) → i < n
  house-below n i k = ltb→lt i n (and_r (houses_ok n) (ltb i n) k)

  pub step-moves : (n : ℕ) (c : Command M) (s : Net M) → Moved M n s (step M n c s).0 (step M n c s).1
  step-moves n (deliver i x) s =
      let Q : Answer M × Net M → Type 0 = λ p. Moved M n s p.0 p.1 in
      let inner : Answer M × Net M = delivered M i (plan M i x (s.house i)) s in
      by_cond Q (not (arrived M x s.sent)) (refused 1, s) (cond (not (house_ok M n i && input_ok M n x)) (refused 2, s) inner) (λ _. refl) (λ a.
      by_cond Q (not (house_ok M n i && input_ok M n x)) (refused 2, s) inner (λ _. refl) (λ b.
      let ok = untrue (house_ok M n i && input_ok M n x) b in
      deliver-fine n s i (house-below n i (and_l (house_ok M n i) (input_ok M n x) ok)) x (untrue (arrived M x s.sent) a) (and_r (house_ok M n i) (input_ok M n x) ok)))
  step-moves n (stop_at i k) s =
      let Q : Answer M × Net M → Type 0 = λ p. Moved M n s p.0 p.1 in
      let inner : Answer M × Net M = came_up M i (restart M k (s.house i)) s in
      let over = ltb (file_size M (unsynced M (s.house i))) k in
      by_cond Q (not (house_ok M n i)) (refused 2, s) (cond over (refused 1, s) inner) (λ _. refl) (λ a.
      by_cond Q over (refused 1, s) inner (λ _. refl) (λ _. came_up-fine n s i (house-below n i (untrue (house_ok M n i) a)) k))

  -- what every step of the relation keeps, every step as a function keeps
  pub by-moved : (n : ℕ) (s : Net M) (P : Net M → Type 0) → P s → ((t : Net M) → Step M n s t → P t) → (a : Answer M) (t : Net M) → Moved M n s a t → P t
  by-moved n s P p f (refused k) t e = subst⁻¹ P e p
  by-moved n s P p f (does ms) t q = f t q

  pub step-reach : (n : ℕ) (c : Command M) (s : Net M) → Reach M n s → Reach M n (step M n c s).1
  step-reach n c s r = by-moved n s (λ t. Reach M n t) r (λ t q. then r q) (step M n c s).0 (step M n c s).1 (step-moves n c s)

  pub run-reach : (n : ℕ) (cs : List (Command M)) (s : Net M) → Reach M n s → Reach M n (run M n cs s)
  unfolding run
  run-reach n [] s r = r
  run-reach n (c ∷ cs) s r = run-reach n cs (step M n c s).1 (step-reach n c s r)

  pub run-start : (n : ℕ) (cs : List (Command M)) → Reach M n (run M n cs (start M))
  run-start n cs = run-reach n cs (start M) begin

pub faithful : Faithful
faithful M L n c s = step-moves M L n c s
