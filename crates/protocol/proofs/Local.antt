-- Several steps of one house: what they come to, and what they make of the network.
use mathlib.Core.Path.{◌≡◌, refl, sym, ◌∙◌, ap, ap₂, subst, subst⁻¹}
use mathlib.Core.Logic.{◌⊎◌, inl, inr}
use mathlib.Core.Bool.{Bool, true, false, cond, ◌&&◌, not}
use mathlib.Core.List.Memᴰ
use mathlib.Core.List.{List, [], ◌∷◌, ◌++◌, Memᴰ, append-nil, append_assoc}
use Prim.Native.Nat.{ℕ}
use native.Mathlib.Omega.{arith}
use lib.Dec.{T, eqb, eqb→eq, eqb_refl}
use lib.ListN.{length}
use Rattle.protocol.specs.Model.{Model}
use Rattle.protocol.specs.Laws.{Laws}
use Rattle.protocol.specs.House.{Rec, Held, Done, Dropped, Ruled, holding, ruled}
use Rattle.protocol.specs.Net.{House, Msg, Hold, Yes, Told, Net, at}
use Rattle.protocol.specs.State.{state_of}
use Rattle.protocol.specs.Plan.{Input, do_submit, do_hold, do_vote, do_rule, do_give_up, do_answer, do_learn, do_sync, Verdict, refused, does, Output, Work, speak, is_held_back, keeping, plan, plan_rule_of, plan_give_up_of, plan_new_hold, added}
use Rattle.protocol.specs.Run.{Command, deliver, Answer, afterwards, act, same_msg, same_bool, was_sent, arrived, input_ok, house_ok, delivered, step, run}
use Rattle.protocol.specs.Crash.{combine_with, batch, AllTaken}
use Rattle.protocol.proofs.Basics.{is_true, is_false, and_both, or_l, or_r, same_refl}
use Rattle.protocol.proofs.Inv.{at_here}
use Rattle.protocol.proofs.Runs.{by-unless, by_cond, ask-mem, sent-mem}

module _ (M : Model) where
  pub added_is : (rs f : List (Rec M)) → added M rs f ≡ f ++ rs
  unfolding added
  added_is [] f = sym (append-nil f)
  added_is (r ∷ rs) f = added_is rs (f ++ (r ∷ [])) ∙ append_assoc f (r ∷ []) rs

  -- the house after several steps
  unfoldable pub acts : ℕ → List (Input M) → House M → House M
  acts i [] h = h
  acts i (x ∷ xs) h = acts i xs (act M i x h).1

  -- h' is h with the work done, but for what is synced
  pub record Joint (h : House M) (w : Work M) (h' : House M) : Type 0 where
    pub file : h'.file ≡ h.file ++ w.out.adds
    pub memory : h'.memory ≡ w.memory
    pub soft : (T w.out.syncs → ⊥) → h'.durable ≡ h.durable

  joint-step : (p : Verdict (Work M)) (h : House M) (v : Work M) (h' : House M) → Joint (afterwards M p h).1 v h' → Joint h (combine_with M p v) h'
  joint-step (refused k) h v h' j = j
  joint-step (does w) h v h' j = record {
    file = j.file ∙ ap (λ (f : List (Rec M)). f ++ v.out.adds) (added_is w.out.adds h.file) ∙ append_assoc h.file w.out.adds v.out.adds;
    memory = j.memory;
    soft = λ q. j.soft (λ t. q (or_r w.out.syncs v.out.syncs t)) ∙ ap (λ (b : Bool). cond b (length (added M w.out.adds h.file)) h.durable) (is_false w.out.syncs (λ t. q (or_l w.out.syncs v.out.syncs t)));
  }

  pub batch-joint : (i : ℕ) (xs : List (Input M)) (h : House M) → Joint h (batch M i xs h) (acts i xs h)
  unfolding batch acts
  batch-joint i [] h = record { file = sym (append-nil h.file); memory = refl; soft = λ _. refl }
  batch-joint i (x ∷ xs) h = joint-step (plan M i x h) h (batch M i xs (act M i x h).1) (acts i xs (act M i x h).1) (batch-joint i xs (act M i x h).1)

  -- a step adds at most one record
  abbrev pub Few : Verdict (Work M) → Type 0
  Few (refused k) = Unit {0}
  Few (does w) = (w.out.adds ≡ []) ⊎ ((r : Rec M) × (w.out.adds ≡ r ∷ []))

  pub few : (i : ℕ) (x : Input M) (h : House M) → Few (plan M i x h)
  few i (do_submit t) h = by-unless Few _ _ (λ k. tt) (λ c. inl refl)
  few i (do_hold t) h =
      let Kept : Verdict (Output M) → Type 0 = λ p. Few (keeping M h.memory p) in
      let old = is_held_back M t (holding M [] h.file) in
      let again : Verdict (Output M) = does (speak M (Yes i (M.name t) ∷ [])) in
      let new = plan_new_hold M i t (state_of M i h.file) in
      by_cond Kept (not (M.party i t)) (refused 7) (cond old again new) (λ _. tt) (λ p. by_cond Kept old again new (λ q. inl refl) (λ q. by-unless Kept _ _ (λ k. tt) (λ c. inr (Held t, refl))))
  few i (do_vote j d) h = by-unless Few _ _ (λ k. tt) (λ c. inl refl)
  few i (do_rule d) h = ask-mem M (λ o. Few (plan_rule_of M o (state_of M i h.file).bytes h.memory)) d h.memory.asking tt (λ a k. by-unless Few _ _ (λ k. tt) (λ c. inr (Ruled a.order, refl)))
  few i (do_give_up d) h = ask-mem M (λ o. Few (plan_give_up_of M o h.memory)) d h.memory.asking tt (λ a k. inl refl)
  few i (do_answer d) h =
      let Kept : Verdict (Output M) → Type 0 = λ p. Few (keeping M h.memory p) in
      by_cond Kept (not (eqb d.home i)) (refused 14) _ (λ _. tt) (λ p. by_cond Kept (ruled M d h.file) _ _ (λ q. inl refl) (λ q. by-unless Kept _ _ (λ k. tt) (λ c. inl refl)))
  few i (do_learn d b) h = by-unless (λ p. Few (keeping M h.memory p)) _ _ (λ k. tt) (λ c. inr (cond b (Done d) (Dropped d), refl))
  few i do_sync h = inl refl

  -- a first part of the records is none, or leaves a first part of those of the later steps
  abbrev Split : Verdict (Work M) → House M → Work M → List (Rec M) → List (Rec M) → Type 0
  Split p h v rs qs = (rs ≡ []) ⊎ ((ts : List (Rec M)) × (v.out.adds ≡ ts ++ qs) × ((afterwards M p h).1.file ++ ts ≡ h.file ++ rs))

  split_one : (w : Work M) (r : Rec M) (h : House M) (v : Work M) (rs qs : List (Rec M)) → w.out.adds ≡ r ∷ [] → w.out.adds ++ v.out.adds ≡ rs ++ qs → Split (does w) h v rs qs
  split_one w r h v [] qs a e = inl refl
  split_one w r h v (x ∷ rs) qs a e =
      let d : r ∷ v.out.adds ≡ x ∷ (rs ++ qs) = ap (λ (y : List (Rec M)). y ++ v.out.adds) (sym a) ∙ e in
      let hd : r ≡ x = cc in
      let tl : v.out.adds ≡ rs ++ qs = cc in
      inr (rs, tl, ap (λ (y : List (Rec M)). y ++ rs) (added_is w.out.adds h.file ∙ ap (λ (y : List (Rec M)). h.file ++ y) (a ∙ ap (λ (y : Rec M). y ∷ []) hd)) ∙ append_assoc h.file (x ∷ []) rs)

  split : (p : Verdict (Work M)) → Few p → (h : House M) (v : Work M) (rs qs : List (Rec M)) → (combine_with M p v).out.adds ≡ rs ++ qs → Split p h v rs qs
  split (refused k) _ h v rs qs e = inr (rs, e, refl)
  split (does w) (inl a) h v rs qs e = inr (
    rs,
    ap (λ (y : List (Rec M)). y ++ v.out.adds) (sym a) ∙ e,
    ap (λ (y : List (Rec M)). y ++ rs) (added_is w.out.adds h.file ∙ ap (λ (y : List (Rec M)). h.file ++ y) a ∙ append-nil h.file),
  )
  split (does w) (inr (r, a)) h v rs qs e = split_one w r h v rs qs a e

  -- some of the steps write a first part of the records
  pub parts : (n i : ℕ) (ms : List (Msg M)) (xs : List (Input M)) (h : House M) (rs qs : List (Rec M)) → AllTaken M n xs ms → (batch M i xs h).out.adds ≡ rs ++ qs →
      (ys : List (Input M)) × AllTaken M n ys ms × ((acts i ys h).file ≡ h.file ++ rs)
  unfolding batch acts
  parts n i ms [] h [] qs k e = ([], tt, sym (append-nil h.file))
  parts n i ms [] h (r ∷ rs) qs k e = let z : ◌≡◌ {A = ℕ} 0 1 = cc in absurd (omega arith)
  parts n i ms (x ∷ xs) h rs qs k e = elim (split (plan M i x h) (few i x h) h (batch M i xs (act M i x h).1) rs qs e) [
    | inl z ↦ ([], tt, sym (append-nil h.file) ∙ ap (λ (y : List (Rec M)). h.file ++ y) (sym z))
    | inr (ts, d, f) ↦ let w = parts n i ms xs (act M i x h).1 ts qs k.2 d in (x ∷ w.0, (k.0, k.1, w.1), w.2 ∙ f)
  ]

  unfoldable pub delivers : ℕ → List (Input M) → List (Command M)
  delivers i [] = []
  delivers i (x ∷ xs) = deliver i x ∷ delivers i xs

  abbrev sends_of : Verdict (Work M) → List (Msg M)
  sends_of (refused k) = []
  sends_of (does w) = w.out.sends

  -- t is s but for house i, which is h', and what was sent, ms among it
  pub record Only (i : ℕ) (s : Net M) (h' : House M) (ms : List (Msg M)) (t : Net M) : Type 0 where
    pub here : t.house i ≡ h'
    pub there : (j : ℕ) → (j ≡ i → ⊥) → t.house j ≡ s.house j
    pub more : (m : Msg M) → Memᴰ m s.sent → Memᴰ m t.sent
    pub said : (m : Msg M) → Memᴰ m ms → Memᴰ m t.sent

  pub only_none : (i : ℕ) (s : Net M) → Only i s (s.house i) [] s
  only_none i s = record { here = refl; there = λ j e. refl; more = λ m k. k; said = λ m k. elim k [ ] }

  pub at_there : (i : ℕ) (h : House M) (hs : ℕ → House M) (j : ℕ) → (j ≡ i → ⊥) → at M i h hs j ≡ hs j
  at_there i h hs j e = ap (λ (b : Bool). cond b h (hs j)) (is_false (eqb j i) (λ t. e (eqb→eq j i t)))

  only-delivered : (i : ℕ) (s : Net M) (p : Verdict (Work M)) → Only i s (afterwards M p (s.house i)).1 (sends_of p) (delivered M i p s).1
  only-delivered i s (refused k) = only_none i s
  only-delivered i s (does w) = record {
    here = at_here M i _ s.house;
    there = at_there i _ s.house;
    more = λ m k. Memᴰ.append_right w.out.sends k;
    said = λ m k. Memᴰ.append_left s.sent k;
  }

  pub only_then : (i : ℕ) (s t u : Net M) (h h' : House M) (ms ns : List (Msg M)) → Only i s h ms t → Only i t h' ns u → Only i s h' (ms ++ ns) u
  only_then i s t u h h' ms ns a b = record {
    here = b.here;
    there = λ j e. b.there j e ∙ a.there j e;
    more = λ m k. b.more m (a.more m k);
    said = λ m k. elim (Memᴰ.append_cases ms k) [ inl x ↦ b.more m (a.said m x) | inr x ↦ b.said m x ];
  }

  step-delivered : (n i : ℕ) (x : Input M) (s : Net M) → T (house_ok M n i) → T (arrived M x s.sent) → T (input_ok M n x) → (delivered M i (plan M i x (s.house i)) s).1 ≡ (step M n (deliver i x) s).1
  step-delivered n i x s b k ok =
      let inner : Answer M × Net M = delivered M i (plan M i x (s.house i)) s in
      let one : Answer M × Net M = (refused 1, s) in
      let two : Answer M × Net M = (refused 2, s) in
      ap₂ (λ (c d : Bool). (cond (not c) one (cond (not d) two inner)).1)
      (sym (is_true (arrived M x s.sent) k)) (sym (is_true (house_ok M n i && input_ok M n x) (and_both (house_ok M n i) (input_ok M n x) b ok)))

  joined-sends : (p : Verdict (Work M)) (v : Work M) → (combine_with M p v).out.sends ≡ sends_of p ++ v.out.sends
  joined-sends (refused k) v = refl
  joined-sends (does w) v = refl

module _ (M : Model) (L : Laws M) where
  bool-self : (b : Bool) → T (same_bool M b b)
  bool-self true = tt
  bool-self false = tt

  msg-self : (m : Msg M) → T (same_msg M m m)
  msg-self (Hold t) = L.same_self t
  msg-self (Yes i d) = and_both _ _ (eqb_refl i) (same_refl d)
  msg-self (Told d b) = and_both _ _ (same_refl d) (bool-self b)

  mem-sent : (m : Msg M) (ms : List (Msg M)) → Memᴰ m ms → T (was_sent M m ms)
  unfolding was_sent
  mem-sent m [] k = elim k [ ]
  mem-sent m (x ∷ xs) k = elim (Memᴰ.cases_cons k) [ inl e ↦ or_l _ _ (subst (λ (y : Msg M). T (same_msg M m y)) e (msg-self m)) | inr r ↦ or_r (same_msg M m x) _ (mem-sent m xs r) ]

  module _ (ms ns : List (Msg M)) (more : (m : Msg M) → Memᴰ m ms → Memᴰ m ns) where
    sent-more : (m : Msg M) → T (was_sent M m ms) → T (was_sent M m ns)
    sent-more m k = mem-sent m ns (more m (sent-mem M L m ms k))

    arrived-more : (x : Input M) → T (arrived M x ms) → T (arrived M x ns)
    arrived-more (do_submit t) k = tt
    arrived-more (do_hold t) k = sent-more (Hold t) k
    arrived-more (do_vote j d) k = sent-more (Yes j d) k
    arrived-more (do_rule d) k = tt
    arrived-more (do_give_up d) k = tt
    arrived-more (do_answer d) k = tt
    arrived-more (do_learn d b) k = sent-more (Told d b) k
    arrived-more do_sync k = tt

    pub all_more : (n : ℕ) (xs : List (Input M)) → AllTaken M n xs ms → AllTaken M n xs ns
    all_more n [] k = tt
    all_more n (x ∷ xs) k = (arrived-more x k.0, k.1, all_more n xs k.2)

  module _ (n i : ℕ) (b : T (house_ok M n i)) where
    pub step-only : (x : Input M) (s : Net M) → T (arrived M x s.sent) → T (input_ok M n x) → Only M i s (act M i x (s.house i)).1 (sends_of M (plan M i x (s.house i))) (step M n (deliver i x) s).1
    step-only x s k ok = subst (λ (t : Net M). Only M i s (act M i x (s.house i)).1 (sends_of M (plan M i x (s.house i))) t) (step-delivered M n i x s b k ok) (only-delivered M i s (plan M i x (s.house i)))

    -- several steps of one house, all of which came about
    pub run_only : (xs : List (Input M)) (s : Net M) → AllTaken M n xs s.sent → Only M i s (acts M i xs (s.house i)) (batch M i xs (s.house i)).out.sends (run M n (delivers M i xs) s)
    unfolding acts batch delivers run
    run_only [] s k = only_none M i s
    run_only (x ∷ xs) s k =
        let t = (step M n (deliver i x) s).1 in
        let u = run M n (delivers M i xs) t in
        let h = (act M i x (s.house i)).1 in
        let a = step-only x s k.0 k.1 in
        let w = run_only xs t (all_more s.sent t.sent a.more n xs k.2) in
        let v : Only M i t (acts M i xs h) (batch M i xs h).out.sends u = subst (λ (y : House M). Only M i t (acts M i xs y) (batch M i xs y).out.sends u) a.here w in
        subst⁻¹ (λ (ms : List (Msg M)). Only M i s (acts M i xs h) ms u) (joined-sends M (plan M i x (s.house i)) (batch M i xs h))
        (only_then M i s t u h (acts M i xs h) (sends_of M (plan M i x (s.house i))) (batch M i xs h).out.sends a v)

  pub run-append : (n : ℕ) (cs ds : List (Command M)) (s : Net M) → run M n (cs ++ ds) s ≡ run M n ds (run M n cs s)
  unfolding run
  run-append n [] ds s = refl
  run-append n (c ∷ cs) ds s = run-append n cs ds (step M n c s).1
