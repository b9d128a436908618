-- What a process does next, and where it stops: whole steps follow it.
use mathlib.Core.Path.{◌≡◌, refl, sym, ◌∙◌, ap, ap₂, subst, subst⁻¹}
use mathlib.Core.Logic.{inl, inr}
use mathlib.Core.Bool.{Bool, false, cond, not}
use mathlib.Core.List.Memᴰ
use mathlib.Core.List.{List, [], ◌∷◌, ◌++◌, Memᴰ, append-nil, append_assoc}
use Prim.Native.Nat.{ℕ, ◌+◌, ◌-◌, ◌≤◌}
use native.Mathlib.Omega.{arith}
use native.Mathlib.Decide.{dec_le}
use lib.Dec.{T, ltb, ltb→lt}
use lib.ListN.{length, take, drop, length-append, take-append-drop}
use lib.Seq.{take_all, take-append-le, take-append-add}
use Rattle.protocol.specs.Model.{Model}
use Rattle.protocol.specs.Laws.{Laws}
use Rattle.protocol.specs.House.{Rec, Began}
use Rattle.protocol.specs.Net.{House, Msg, Net, at, synced, with_memory, restarted}
use Rattle.protocol.specs.State.{file_size}
use Rattle.protocol.specs.Plan.{Input, do_sync, Verdict, refused, added, unsynced, whole_in, restart}
use Rattle.protocol.specs.Run.{Command, deliver, stop_at, Answer, house_ok, came_up, step, run}
use Rattle.protocol.specs.Crash.{Effect, Append, Sync, Remember, Send, Process, appends, sendings, after_appends, effects, batch, perform, advance, emitted, written, recovering, may_come_up, AllTaken}
use Rattle.protocol.proofs.Basics.{by_bool, is_true, is_false}
use Rattle.protocol.proofs.Inv.{at_here}
use Rattle.protocol.proofs.Kept.{whole_in_lem, size-take, take-kept}
use Rattle.protocol.proofs.Local.{acts, batch-joint, parts, delivers, Only, at_there, step-only, run_only, run-append, all_more}
use Rattle.protocol.proofs.Matching.{wrote, Match, before, after, recovers, starts-up, idle-match, in_flight-soft, in_flight-before, soft-sendings, finish-sendings, sent-sendings, restart-does}

module _ (M : Model) (L : Laws M) (n i : ℕ) (b : T (house_ok M n i)) where
  pub match-more : (j : ℕ) (ms ns : List (Msg M)) (h : House M) (d : Process M) → ((m : Msg M) → Memᴰ m ms → Memᴰ m ns) → Match M n j ms h d → Match M n j ns h d
  match-more j ms ns h d more (before xs al rs qs e) = before xs (all_more M L ms ns more n xs al) rs qs e
  match-more j ms ns h d more (after g es so x y f c) = after g es so x y f (λ m k. more m (c m k))
  match-more j ms ns h d more (recovers k l w) = recovers k l w
  match-more j ms ns h d more (starts-up k l w) = starts-up k l w

  -- some whole steps of house i, after which its process is d
  pub record Follows (s : Net M) (d : Process M) : Type 0 where
    pub cs : List (Command M)
    pub there : (j : ℕ) → (j ≡ i → ⊥) → (run M n cs s).house j ≡ s.house j
    pub more : (m : Msg M) → Memᴰ m s.sent → Memᴰ m (run M n cs s).sent
    pub match : Match M n i (run M n cs s).sent ((run M n cs s).house i) d

  pub stays : (s : Net M) (d : Process M) → Match M n i s.sent (s.house i) d → Follows s d
  unfolding run
  stays s d m = record { cs = []; there = λ j e. refl; more = λ x k. k; match = m }

  pub follows : (s : Net M) (d : Process M) (cs : List (Command M)) (h : House M) (ms : List (Msg M)) → Only M i s h ms (run M n cs s) → Match M n i (run M n cs s).sent h d → Follows s d
  follows s d cs h ms o m = record { cs = cs; there = o.there; more = o.more; match = subst⁻¹ (λ (y : House M). Match M n i (run M n cs s).sent y d) o.here m }

  -- the bytes of the records up to the k-th that were written since the last sync
  abbrev pub bytes_for : Net M → ℕ → ℕ
  bytes_for s k = file_size M (take (k - (s.house i).durable) (unsynced M (s.house i)))

  pub stops : (s : Net M) (k : ℕ) → (s.house i).durable ≤ k → T (may_come_up M (take k (s.house i).file)) → Only M i s (restarted M k (s.house i)) [] (run M n (stop_at i (bytes_for s k) ∷ []) s)
  unfolding run
  stops s k l w =
      let h = s.house i in
      let c = k - h.durable in
      let bs = bytes_for s k in
      let t : Net M = record { house = at M i (restarted M k h) s.house; sent = s.sent; done = s.done } in
      let same : take (h.durable + whole_in M bs (unsynced M h)) h.file ≡ take k h.file =
      ap (λ (y : ℕ). take (h.durable + y) h.file) (whole_in_lem M c (unsynced M h)) ∙ take-kept M h.durable c h.file ∙ ap (λ (y : ℕ). take y h.file) (let z : h.durable + c ≡ k = omega arith in z) in
      let inner : Verdict (House M) → Answer M × Net M = λ v. came_up M i v s in
      let over = ltb (file_size M (unsynced M h)) bs in
      let fits : over ≡ false = is_false over (λ x. omega (arith, ltb→lt (file_size M (unsynced M h)) bs x, size-take M c (unsynced M h))) in
      let e : (step M n (stop_at i bs) s).1 ≡ t =
      ap₂ (λ (x y : Bool). (cond {A = Answer M × Net M} (not x) (refused 2, s) (cond y (refused 1, s) (inner (restart M bs h)))).1) (is_true (house_ok M n i) b) fits ∙ ap (λ (v : Verdict (House M)). (inner v).1) (restart-does M k bs h w same) in
      subst⁻¹ (λ (y : Net M). Only M i s (restarted M k h) [] y) e
      (record { here = at_here M i _ s.house; there = at_there M i _ s.house; more = λ m x. x; said = λ m x. elim x [ ] })

  -- a house whose file is all kept
  pub recovers-all : (ms : List (Msg M)) (h : House M) (f : List (Rec M)) → h.file ≡ f → T (may_come_up M f) → Match M n i ms h (recovering M f)
  recovers-all ms h f e w =
      let k = h.durable + length h.file in
      let z : f ≡ take k h.file = sym (take_all k h.file (omega arith) ∙ e) in
      subst⁻¹ (λ (y : List (Rec M)). Match M n i ms h (recovering M y)) z (recovers k (omega arith) (subst (λ (y : List (Rec M)). T (may_come_up M y)) z w))

  -- A STOP while records are written: some first part of them is on the disk
  pub stop-writing : (s : Net M) (xs : List (Input M)) → AllTaken M n xs s.sent → (rs qs : List (Rec M)) → (batch M i xs (s.house i)).out.adds ≡ rs ++ qs → (k : ℕ) → (s.house i).durable ≤ k →
      (g : List (Rec M)) → g ≡ take k ((s.house i).file ++ rs) → T (may_come_up M g) → Follows s (recovering M g)
  stop-writing s xs al rs qs e k l g z w = elim (dec_le k (length (s.house i).file)) [
    | yes a ↦
        let q : g ≡ take k (s.house i).file = z ∙ take-append-le k (s.house i).file rs a in
        stays s (recovering M g) (subst⁻¹ (λ (y : List (Rec M)). Match M n i s.sent (s.house i) (recovering M y)) q (recovers k l (subst (λ (y : List (Rec M)). T (may_come_up M y)) q w)))
    | no a ↦
        let f = (s.house i).file in
        let c = k - length f in
        let q : g ≡ f ++ take c rs = z ∙ ap (λ (y : ℕ). take y (f ++ rs)) (let o : k ≡ length f + c = omega arith in o) ∙ take-append-add f rs c in
        let d : (batch M i xs (s.house i)).out.adds ≡ take c rs ++ (drop c rs ++ qs) = e ∙ ap (λ (y : List (Rec M)). y ++ qs) (sym (take-append-drop c rs)) ∙ append_assoc (take c rs) (drop c rs) qs in
        let p = parts M n i s.sent xs (s.house i) (take c rs) (drop c rs ++ qs) al d in
        follows s (recovering M g) (delivers M i p.0) (acts M i p.0 (s.house i)) (batch M i p.0 (s.house i)).out.sends (run_only M L n i b p.0 s p.1)
        (recovers-all _ (acts M i p.0 (s.house i)) g (p.2 ∙ sym q) w)
  ]

  -- A STOP while the house comes up
  pub stop-starting : (s : Net M) (k : ℕ) → (s.house i).durable ≤ k → T (may_come_up M (take k (s.house i).file)) → (c : ℕ) → length (take k (s.house i).file) ≤ c →
      (g : List (Rec M)) → g ≡ take c (take k (s.house i).file ++ (Began ∷ [])) → T (may_come_up M g) → Follows s (recovering M g)
  stop-starting s k l v c o g z w = elim (dec_le c (length (take k (s.house i).file))) [
    | yes a ↦
        let q : g ≡ take k (s.house i).file = z ∙ take-append-le c (take k (s.house i).file) (Began ∷ []) a ∙ take_all c (take k (s.house i).file) o in
        stays s (recovering M g) (subst⁻¹ (λ (y : List (Rec M)). Match M n i s.sent (s.house i) (recovering M y)) q (recovers k l v))
    | no a ↦
        let q : g ≡ take k (s.house i).file ++ (Began ∷ []) = z ∙ take_all c (take k (s.house i).file ++ (Began ∷ [])) (omega (arith, length-append (take k (s.house i).file) (Began ∷ []))) in
        follows s (recovering M g) (stop_at i (bytes_for s k) ∷ []) (restarted M k (s.house i)) [] (stops s k l v) (recovers-all _ (restarted M k (s.house i)) g (sym q) w)
  ]

  pub stop-match : (s : Net M) (d : Process M) → Match M n i s.sent (s.house i) d → (k : ℕ) → d.state.durable ≤ k → (g : List (Rec M)) → g ≡ take k (written M d) → T (may_come_up M g) → Follows s (recovering M g)
  stop-match s d (before xs al rs qs e) k l g z w =
      let h = s.house i in
      let p = in_flight-before M h.file (batch M i xs h).out.adds rs qs (batch M i xs h) e in
      stop-writing s xs al p.0 p.1 p.2 k l g (z ∙ ap (λ (y : List (Rec M)). take k y) p.3) w
  stop-match s d (after x es so a c f m) k l g z w =
      let q : g ≡ take k (s.house i).file = z ∙ ap (λ (y : List (Rec M)). take k y) (ap (λ (y : List (Rec M)). x.file ++ y) (in_flight-soft M es so) ∙ append-nil x.file ∙ a) in
      stays s (recovering M g) (subst⁻¹ (λ (y : List (Rec M)). Match M n i s.sent (s.house i) (recovering M y)) q (recovers k (omega (arith, c)) (subst (λ (y : List (Rec M)). T (may_come_up M y)) q w)))
  stop-match s d (recovers c a v) k l g z w = stop-starting s c a v k l g z w
  stop-match s d (starts-up c a v) k l g z w = stop-starting s c a v k l g (z ∙ ap (λ (y : List (Rec M)). take k y) (append-nil (take c (s.house i).file ++ (Began ∷ [])))) w

  -- THE NEXT EFFECT
  pub record Goes (s : Net M) (d : Process M) (pending : List (Effect M)) : Type 0 where
    pub follow : Follows s d
    pub messages : (ps : List (Msg M)) → ((m : Msg M) → Memᴰ m ps → Memᴰ m (run M n follow.cs s).sent) → (m : Msg M) → Memᴰ m (emitted M pending ps) → Memᴰ m (run M n follow.cs s).sent

  -- the last record is written: the whole steps are done, and a sync if there is one
  pub done-soft : (s : Net M) (xs : List (Input M)) → AllTaken M n xs s.sent → (rs : List (Rec M)) → (batch M i xs (s.house i)).out.adds ≡ rs → (T (batch M i xs (s.house i)).out.syncs → ⊥) →
      Follows s (record { state = with_memory M (batch M i xs (s.house i)).memory (wrote M (s.house i) rs); pending = sendings M (batch M i xs (s.house i)).out.sends })
  done-soft s xs al rs e q =
      let h = s.house i in
      let w = batch M i xs h in
      let h' = acts M i xs h in
      let j = batch-joint M i xs h in
      let o = run_only M L n i b xs s al in
      let g : House M = with_memory M w.memory (wrote M h rs) in
      let fe : h.file ++ rs ≡ h'.file = sym (j.file ∙ ap (λ (y : List (Rec M)). h.file ++ y) e) in
      let se : h.durable ≡ h'.durable = sym (j.soft q) in
      let same : g ≡ h' = λ t. record { file = fe t; durable = se t; memory = sym j.memory t } in
      follows s (record { state = g; pending = sendings M w.out.sends }) (delivers M i xs) h' w.out.sends o
      (after g (sendings M w.out.sends) (soft-sendings M w.out.sends) fe se (finish-sendings M w.out.sends g ∙ same)
      (λ m k. o.said m (subst (λ (y : List (Msg M)). Memᴰ m y) (sent-sendings M w.out.sends) k)))

  pub done-hard : (s : Net M) (xs : List (Input M)) → AllTaken M n xs s.sent → (rs : List (Rec M)) → (batch M i xs (s.house i)).out.adds ≡ rs →
      Follows s (record {
        state = synced M (wrote M (s.house i) rs);
        pending = Remember (batch M i xs (s.house i)).memory ∷ sendings M (batch M i xs (s.house i)).out.sends;
      })
  unfolding run added
  done-hard s xs al rs e =
      let h = s.house i in
      let w = batch M i xs h in
      let h' = acts M i xs h in
      let j = batch-joint M i xs h in
      let o = run_only M L n i b xs s al in
      let t = run M n (delivers M i xs) s in
      let u = (step M n (deliver i do_sync) t).1 in
      let p = step-only M L n i b do_sync t tt tt in
      let g : House M = synced M (wrote M h rs) in
      let es = Remember w.memory ∷ sendings M w.out.sends in
      let fe : h.file ++ rs ≡ h'.file = sym (j.file ∙ ap (λ (y : List (Rec M)). h.file ++ y) e) in
      let done : House M = synced M h' in
      let here : u.house i ≡ done = p.here ∙ ap (λ (y : House M). synced M y) o.here in
      let same : with_memory M w.memory g ≡ done = λ x. record { file = fe x; durable = length (fe x); memory = sym j.memory x } in
      let v : run M n (delivers M i xs ++ (deliver i do_sync ∷ [])) s ≡ u = run-append M L n (delivers M i xs) (deliver i do_sync ∷ []) s in
      let all : Only M i s done w.out.sends u = record { here = here; there = λ x y. p.there x y ∙ o.there x y; more = λ m k. p.more m (o.more m k); said = λ m k. p.more m (o.said m k) } in
      follows s (record { state = g; pending = es }) (delivers M i xs ++ (deliver i do_sync ∷ [])) done w.out.sends (subst⁻¹ (λ (y : Net M). Only M i s done w.out.sends y) v all)
      (after g es (tt, soft-sendings M w.out.sends) fe (ap (λ (y : List (Rec M)). length y) fe) (finish-sendings M w.out.sends (with_memory M w.memory g) ∙ same)
      (λ m k. subst⁻¹ (λ (y : Net M). Memᴰ m y.sent) v (all.said m (subst (λ (y : List (Msg M)). Memᴰ m y) (sent-sendings M w.out.sends) k))))

  pub quiet : (s : Net M) (d : Process M) (pending : List (Effect M)) → ((ps : List (Msg M)) → emitted M pending ps ≡ ps) → Follows s d → Goes s d pending
  quiet s d pending e f = record { follow = f; messages = λ ps k m x. k m (subst (λ (y : List (Msg M)). Memᴰ m y) (e ps) x) }

  pub proceed-rest : (s : Net M) (xs : List (Input M)) → AllTaken M n xs s.sent → (rs : List (Rec M)) → (batch M i xs (s.house i)).out.adds ≡ rs →
      Goes s (advance M (wrote M (s.house i) rs) (after_appends M (batch M i xs (s.house i)))) (after_appends M (batch M i xs (s.house i)))
  proceed-rest s xs al rs e =
      let w = batch M i xs (s.house i) in
      let es = Remember w.memory ∷ sendings M w.out.sends in
      by_bool (λ c. Goes s (advance M (wrote M (s.house i) rs) (cond c (Sync ∷ es) es)) (cond c (Sync ∷ es) es)) w.out.syncs
      (λ _. quiet s (record { state = synced M (wrote M (s.house i) rs); pending = es }) (Sync ∷ es) (λ ps. refl) (done-hard s xs al rs e))
      (λ q. quiet s (record { state = with_memory M w.memory (wrote M (s.house i) rs); pending = sendings M w.out.sends }) es (λ ps. refl) (done-soft s xs al rs e q))

  pub proceed-match : (s : Net M) (d : Process M) → Match M n i s.sent (s.house i) d → Goes s (advance M d.state d.pending) d.pending
  unfolding appends run stays
  proceed-match s d (before xs al rs [] e) = proceed-rest s xs al rs (e ∙ append-nil rs)
  proceed-match s d (before xs al rs (q ∷ qs) e) =
      let h = s.house i in
      let es = appends M qs (after_appends M (batch M i xs h)) in
      let x : Match M n i s.sent h (record { state = wrote M h (rs ++ (q ∷ [])); pending = es }) = before xs al (rs ++ (q ∷ [])) qs (e ∙ sym (append_assoc rs (q ∷ []) qs)) in
      let y : Match M n i s.sent h (record { state = perform M (Append q) (wrote M h rs); pending = es }) =
      subst (λ (f : List (Rec M)). Match M n i s.sent h (record { state = record { file = f; durable = h.durable; memory = h.memory }; pending = es })) (sym (append_assoc h.file rs (q ∷ []))) x in
      quiet s _ (Append q ∷ es) (λ ps. refl) (stays s _ y)
  proceed-match s d (after g [] so a c f m) = quiet s _ [] (λ ps. refl) (stays s _ (after g [] so a c f m))
  proceed-match s d (after g (Append r ∷ es) so a c f m) = absurd so.0
  proceed-match s d (after g (Sync ∷ es) so a c f m) = absurd so.0
  proceed-match s d (after g (Remember m' ∷ es) so a c f m) = quiet s _ (Remember m' ∷ es) (λ ps. refl) (stays s _ (after (with_memory M m' g) es so.1 a c f m))
  proceed-match s d (after g (Send x ∷ es) so a c f m) = record {
    follow = stays s _ (after g es so.1 a c f (λ y k. m y (Memᴰ.tail k)));
    messages = λ ps k y z. elim (Memᴰ.cases_cons z) [ inl e ↦ subst⁻¹ (λ (v : Msg M). Memᴰ v s.sent) e (m x (Memᴰ.head refl)) | inr r ↦ k y r ];
  }
  proceed-match s d (recovers k l w) = quiet s _ (Append Began ∷ Sync ∷ []) (λ ps. refl) (stays s _ (starts-up k l w))
  proceed-match s d (starts-up k l w) =
      quiet s _ (Sync ∷ []) (λ ps. refl) (follows s _ (stop_at i (bytes_for s k) ∷ []) (restarted M k (s.house i)) [] (stops s k l w)
      (after (restarted M k (s.house i)) [] tt refl refl refl (λ m k. elim k [ ])))

  -- a house that has nothing left to do takes something up
  pub take-match : (s : Net M) (d : Process M) → Match M n i s.sent (s.house i) d → d.pending ≡ [] → (xs : List (Input M)) → AllTaken M n xs s.sent →
      Follows s (record { state = d.state; pending = effects M (batch M i xs d.state) })
  take-match s d m z xs al =
      let h = s.house i in
      let e = idle-match M n i s.sent h d m z in
      let es = effects M (batch M i xs h) in
      let x : Match M n i s.sent h (record { state = wrote M h []; pending = es }) = before xs al [] (batch M i xs h).out.adds refl in
      let y : Match M n i s.sent h (record { state = h; pending = es }) =
      subst (λ (f : List (Rec M)). Match M n i s.sent h (record { state = record { file = f; durable = h.durable; memory = h.memory }; pending = es })) (append-nil h.file) x in
      stays s _ (subst⁻¹ (λ (v : House M). Match M n i s.sent h (record { state = v; pending = effects M (batch M i xs v) })) e y)
