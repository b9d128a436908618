-- After any list of commands every file is within the limits, and so it opens.
use mathlib.Core.Path.{◌≡◌, refl, subst, subst⁻¹}
use mathlib.Core.Logic.{◌⊎◌, inl, inr}
use mathlib.Core.Bool.{true, false, cond, ◌&&◌, not}
use mathlib.Core.List.{List, [], ◌∷◌, ◌++◌}
use Prim.Native.Nat.{ℕ, ◌+◌, ◌≤◌, ◌<◌}
use native.Mathlib.Omega.{arith}
use native.Mathlib.Decide.{dec_le}
use lib.Dec.{T, eqb, ltb, lt→ltb, leb, le→leb}
use lib.ListN.{length, take}
use Rattle.protocol.specs.Model.{Model, most_held, most_starts, most_bytes}
use Rattle.protocol.specs.Laws.{Laws}
use Rattle.protocol.specs.House.{Rec, Began, Held, Done, Dropped, Ruled, starts, ruled}
use Rattle.protocol.specs.Net.{House, Yes, Net, start, at}
use Rattle.protocol.specs.State.{State, state_of, empty_state, rec_size, file_size, within_limits, all_lawful, all_within}
use Rattle.protocol.specs.Plan.{Input, do_submit, do_hold, do_vote, do_rule, do_give_up, do_answer, do_learn, do_sync, Verdict, refused, does, Output, Work, speak, is_held_back, keeping, plan, plan_new_hold, plan_rule_of, plan_give_up_of, added, no_room, unsynced, whole_in, restart}
use Rattle.protocol.specs.Run.{Command, deliver, stop_at, Answer, arrived, input_ok, house_ok, delivered, came_up, step, run}
use Rattle.protocol.specs.Opens.{OpensAt, Opens}
use Rattle.protocol.proofs.Basics.{and_both}
use Rattle.protocol.proofs.Inv.{at_all}
use Rattle.protocol.proofs.Replays.{state-opened, size-snoc}
use Rattle.protocol.proofs.Runs.{by-unless, by_cond, ask-mem, run-start}
use Rattle.protocol.proofs.Opening.{within-snoc, within-take, lawful-at}

not-leb : (a b : ℕ) → (T (leb a b) → ⊥) → b < a
not-leb a b f = elim (dec_le a b) [ yes l ↦ absurd (f (le→leb a b l)) | no g ↦ omega arith ]

not-ltb : (a b : ℕ) → (T (ltb a b) → ⊥) → b ≤ a
not-ltb a b f = elim (dec_le b a) [ yes l ↦ l | no g ↦ absurd (f (lt→ltb a b (omega arith))) ]

module _ (M : Model) where
  -- what a step adds to a file that says v is within the limits
  abbrev AddsOk : State M → List (Rec M) → Type 0
  AddsOk v rs = (rs ≡ []) ⊎ ((r : Rec M) × (rs ≡ r ∷ []) × T (within_limits M r v) × (v.bytes + rec_size M r ≤ most_bytes))

  abbrev Within : State M → Verdict (Work M) → Type 0
  Within v (refused k) = Unit {0}
  Within v (does w) = AddsOk v w.out.adds

  has_room : (r : Rec M) (k : ℕ) → (T (no_room M r k) → ⊥) → k + rec_size M r ≤ most_bytes
  has_room r k f = not-ltb most_bytes (k + rec_size M r) f

  plan-within : (i : ℕ) (x : Input M) (h : House M) → Within (state_of M i h.file) (plan M i x h)
  plan-within i (do_submit t) h = by-unless (Within (state_of M i h.file)) _ _ (λ k. tt) (λ c. inl refl)
  plan-within i (do_hold t) h =
      let v = state_of M i h.file in
      let Kept : Verdict (Output M) → Type 0 = λ p. Within v (keeping M h.memory p) in
      let old = is_held_back M t v.held in
      let again : Verdict (Output M) = does (speak M (Yes i (M.name t) ∷ [])) in
      let new = plan_new_hold M i t v in
      by_cond Kept (not (M.party i t)) (refused 7) (cond old again new) (λ _. tt) (λ p. by_cond Kept old again new (λ q. inl refl) (λ q.
      by-unless Kept _ _ (λ k. tt) (λ c. inr (Held t, refl, lt→ltb (length v.held) most_held (not-leb most_held (length v.held) c.1.1.1.0), has_room (Held t) v.bytes c.1.1.1.1.0))))
  plan-within i (do_vote j d) h = by-unless (Within (state_of M i h.file)) _ _ (λ k. tt) (λ c. inl refl)
  plan-within i (do_rule d) h =
      let v = state_of M i h.file in
      ask-mem M (λ o. Within v (plan_rule_of M o v.bytes h.memory)) d h.memory.asking tt (λ a k. by-unless (Within v) _ _ (λ k. tt) (λ c. inr (Ruled a.order, refl, tt, has_room (Ruled a.order) v.bytes c.1.0)))
  plan-within i (do_give_up d) h = ask-mem M (λ o. Within (state_of M i h.file) (plan_give_up_of M o h.memory)) d h.memory.asking tt (λ a k. inl refl)
  plan-within i (do_answer d) h =
      let Kept : Verdict (Output M) → Type 0 = λ p. Within (state_of M i h.file) (keeping M h.memory p) in
      by_cond Kept (not (eqb d.home i)) (refused 14) _ (λ _. tt) (λ p. by_cond Kept (ruled M d h.file) _ _ (λ q. inl refl) (λ q. by-unless Kept _ _ (λ k. tt) (λ c. inl refl)))
  plan-within i (do_learn d true) h =
      let v = state_of M i h.file in
      by-unless (λ p. Within v (keeping M h.memory p)) _ _ (λ k. tt) (λ c. inr (Done d, refl, tt, has_room (Done d) v.bytes c.1.0))
  plan-within i (do_learn d false) h =
      let v = state_of M i h.file in
      by-unless (λ p. Within v (keeping M h.memory p)) _ _ (λ k. tt) (λ c. inr (Dropped d, refl, tt, has_room (Dropped d) v.bytes c.1.0))
  plan-within i do_sync h = inl refl

  -- a file within the limits
  pub record Small (i : ℕ) (f : List (Rec M)) : Type 0 where
    pub all : T (all_within M i f (empty_state M))
    pub room : file_size M f ≤ most_bytes

  small-snoc : (i : ℕ) (f : List (Rec M)) (r : Rec M) → T (all_within M i f (empty_state M)) → T (within_limits M r (state_of M i f)) → file_size M f + rec_size M r ≤ most_bytes → Small i (f ++ (r ∷ []))
  small-snoc i f r a w l = record {
    all = within-snoc M i f r (empty_state M) a (subst (λ (v : State M). T (within_limits M r v)) (state-opened M i f) w);
    room = omega (arith, l, size-snoc M i f r);
  }

  small-added : (i : ℕ) (f rs : List (Rec M)) → Small i f → AddsOk (state_of M i f) rs → Small i (added M rs f)
  unfolding added
  small-added i f rs s (inl e) = subst⁻¹ (λ (x : List (Rec M)). Small i (added M x f)) e s
  small-added i f rs s (inr (r, e, w, l)) = subst⁻¹ (λ (x : List (Rec M)). Small i (added M x f)) e (small-snoc i f r s.all w l)

  Files : Net M → Type 0
  Files s = (j : ℕ) → Small j (s.house j).file

  small_at : (s : Net M) (i : ℕ) (h : House M) → Files s → Small i h.file → (j : ℕ) → Small j (at M i h s.house j).file
  unfolding Files
  small_at s i h b c = at_all M (λ j x. Small j x.file) i h s.house c (λ j e. b j)

  delivered-small : (s : Net M) (i : ℕ) (p : Verdict (Work M)) → Files s → Within (state_of M i (s.house i).file) p → Files (delivered M i p s).1
  unfolding Files small_at
  delivered-small s i (refused k) b w = b
  delivered-small s i (does o) b w = small_at s i _ b (small-added i (s.house i).file o.out.adds (b i) w)

  came_up-small : (s : Net M) (i k : ℕ) → Files s → Files (came_up M i (restart M k (s.house i)) s).1
  unfolding Files small_at
  came_up-small s i k b =
      let h = s.house i in
      let f = take (h.durable + whole_in M k (unsynced M h)) h.file in
      by-unless (λ p. Files (came_up M i p s).1) _ _ (λ _. b) (λ c. small_at s i _ b
      (small-snoc i f Began (within-take M i _ h.file (empty_state M) (b i).all) (lt→ltb (starts M f) most_starts (not-leb most_starts (starts M f) c.0)) (has_room Began (file_size M f) c.1.0)))

  step_small : (n : ℕ) (c : Command M) (s : Net M) → Files s → Files (step M n c s).1
  step_small n (deliver i x) s b =
      let Q : Answer M × Net M → Type 0 = λ p. Files p.1 in
      by_cond Q (not (arrived M x s.sent)) _ _ (λ _. b) (λ _. by_cond Q (not (house_ok M n i && input_ok M n x)) _ _ (λ _. b) (λ _. delivered-small s i (plan M i x (s.house i)) b (plan-within i x (s.house i))))
  step_small n (stop_at i k) s b =
      let Q : Answer M × Net M → Type 0 = λ p. Files p.1 in
      by_cond Q (not (house_ok M n i)) _ _ (λ _. b) (λ _. by_cond Q (ltb (file_size M (unsynced M (s.house i))) k) _ _ (λ _. b) (λ _. came_up-small s i k b))

  run_small : (n : ℕ) (cs : List (Command M)) (s : Net M) → Files s → Files (run M n cs s)
  unfolding run
  run_small n [] s b = b
  run_small n (c ∷ cs) s b = run_small n cs (step M n c s).1 (step_small n c s b)

  start_small : Files (start M)
  unfolding Files all_within file_size
  start_small j = record { all = tt; room = omega arith }

pub opens_at : (M : Model) → Laws M → OpensAt M
unfolding Files
opens_at M L n cs i =
    let s = run M n cs (start M) in
    let b = run_small M n cs (start M) (start_small M) i in
    record { opened = λ k. and_both (all_lawful M i (take k (s.house i).file) (empty_state M)) _ (lawful-at M L n s (run-start M L n cs) i k) (within-take M i k (s.house i).file (empty_state M) b.all); room = b.room }

pub every-file-opens : Opens
every-file-opens M L = (lawful-at M L, opens_at M L)
