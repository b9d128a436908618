-- A step that is interrupted adds nothing new: what comes about is covered by whole steps.
use mathlib.Core.Path.{◌≡◌, refl, subst⁻¹}
use mathlib.Core.Bool.{cond}
use mathlib.Core.List.{List, [], ◌∷◌, ◌++◌, Memᴰ}
use Prim.Native.Nat.{ℕ, ◌<◌}
use native.Mathlib.Omega.{arith}
use lib.Dec.{T, eqb, eqb→eq, eqb_refl, ltb, lt→ltb}
use lib.ListN.{take}
use Rattle.protocol.specs.Model.{Model, houses_ok}
use Rattle.protocol.specs.Laws.{Laws}
use Rattle.protocol.specs.House.{Rec}
use Rattle.protocol.specs.Net.{House, Msg, Net, start, begun}
use Rattle.protocol.specs.Plan.{Work}
use Rattle.protocol.specs.Run.{Command, house_ok, run}
use Rattle.protocol.specs.Crash.{Codec, AllFit, Effect, Append, Sync, Remember, Send, Process, System, appends, sendings, after_appends, batch, advance, emitted, in_flight_of, written, recovering, replaced, initial, MicroStep, accept, proceed, crash, Occurs, initially, next, Covers, Interrupted}
use Rattle.protocol.proofs.Basics.{by_bool, and_both}
use Rattle.protocol.proofs.Torn.{read_kept, fit-left, fit-both, fit-take}
use Rattle.protocol.proofs.Local.{run-append, all_more}
use Rattle.protocol.proofs.Matching.{Match, after, idle-match}
use Rattle.protocol.proofs.Following.{Follows, match-more, take-match, proceed-match, stop-match}

module _ (M : Model) (L : Laws M) (C : Codec M) (n : ℕ) (few : T (houses_ok n)) where
  there-is : (i : ℕ) → i < n → T (house_ok M n i)
  there-is i b = and_both (houses_ok n) (ltb i n) few (lt→ltb i n b)

  -- the records that are still to be written
  abbrev coming : List (Effect M) → List (Rec M)
  coming [] = []
  coming (e ∷ es) = in_flight_of M e ++ coming es

  abbrev Fit : Process M → Type 0
  Fit d = AllFit C d.state.file × AllFit C (coming d.pending)

  coming-sendings : (ms : List (Msg M)) → coming (sendings M ms) ≡ []
  unfolding sendings
  coming-sendings [] = refl
  coming-sendings (m ∷ ms) = coming-sendings ms

  coming-rest : (w : Work M) → coming (after_appends M w) ≡ []
  coming-rest w =
      let es = Remember w.memory ∷ sendings M w.out.sends in
      by_bool (λ c. coming (cond c (Sync ∷ es) es) ≡ []) w.out.syncs (λ _. coming-sendings w.out.sends) (λ _. coming-sendings w.out.sends)

  fit-effects : (qs : List (Rec M)) (w : Work M) → AllFit C qs → AllFit C (coming (appends M qs (after_appends M w)))
  unfolding appends
  fit-effects [] w y = subst⁻¹ (λ (f : List (Rec M)). AllFit C f) (coming-rest w) tt
  fit-effects (q ∷ qs) w y = (y.0, fit-effects qs w y.1)

  fit-advance : (h : House M) (es : List (Effect M)) → Fit (record { state = h; pending = es }) → Fit (advance M h es)
  fit-advance h [] y = y
  fit-advance h (Append r ∷ es) y = (fit-both M C h.file (r ∷ []) y.0 (y.1.0, tt), y.1.1)
  fit-advance h (Sync ∷ es) y = y
  fit-advance h (Remember m' ∷ es) y = y
  fit-advance h (Send m ∷ es) y = y

  fit_written : (h : House M) (es : List (Effect M)) → Fit (record { state = h; pending = es }) → AllFit C (written M (record { state = h; pending = es }))
  fit_written h [] y = fit-both M C h.file [] y.0 tt
  fit_written h (e ∷ es) y = fit-both M C h.file (in_flight_of M e) y.0 (fit-left M C (in_flight_of M e) (coming es) y.1)

  fit-recovering : (k : ℕ) (f g : List (Rec M)) → AllFit C f → g ≡ take k f → Fit (recovering M g)
  fit-recovering k f g y e = (subst⁻¹ (λ (x : List (Rec M)). AllFit C x) e (fit-take M C k f y), (C.began, tt))

  record Sim (m : System M) (s : Net M) : Type 0 where
    messages : (x : Msg M) → Memᴰ x m.posted → Memᴰ x s.sent
    processes : (i : ℕ) → Match M n i s.sent (s.house i) (m.process i)
    fit : (i : ℕ) → Fit (m.process i)

  replaced-all : (P : ℕ → Process M → Type 0) (i : ℕ) (d : Process M) (ds : ℕ → Process M) → P i d → ((j : ℕ) → (j ≡ i → ⊥) → P j (ds j)) → (j : ℕ) → P j (replaced M i d ds j)
  replaced-all P i d ds p q j =
      by_bool (λ c. P j (cond c d (ds j))) (eqb j i) (λ t. subst⁻¹ (λ (x : ℕ). P x d) (eqb→eq j i t) p) (λ z. q j (λ e. z (subst⁻¹ (λ (x : ℕ). T (eqb x i)) e (eqb_refl i))))

  -- the other processes are as they were
  sim-replaced : (m : System M) (s : Net M) → Sim m s → (i : ℕ) (b : T (house_ok M n i)) (d : Process M) (ps : List (Msg M)) (f : Follows M L n i b s d) → Fit d →
      ((x : Msg M) → Memᴰ x ps → Memᴰ x (run M n f.cs s).sent) → Sim (record { process = replaced M i d m.process; posted = ps }) (run M n f.cs s)
  sim-replaced m s v i b d ps f y k =
      let t = run M n f.cs s in
      record {
        messages = k;
        processes = replaced-all (λ j x. Match M n j t.sent (t.house j) x) i d m.process f.match
            (λ j e. match-more M L n i b j s.sent t.sent (t.house j) (m.process j) f.more (subst⁻¹ (λ (y : House M). Match M n j s.sent y (m.process j)) (f.there j e) (v.processes j)));
        fit = replaced-all (λ j x. Fit x) i d m.process y (λ j e. v.fit j);
      }

  sim-step : (m k : System M) (s : Net M) → Sim m s → MicroStep M C n m k → (cs : List (Command M)) × Sim k (run M n cs s)
  sim-step m k s v (accept _ i i<n z xs al ok) =
      let b = there-is i i<n in
      let f = take-match M L n i b s (m.process i) (v.processes i) z xs (all_more M L m.posted s.sent v.messages n xs al) in
      (f.cs, sim-replaced m s v i b _ m.posted f ((v.fit i).0, fit-effects _ (batch M i xs (m.process i).state) ok) (λ x p. f.more x (v.messages x p)))
  sim-step m k s v (proceed _ i i<n) =
      let b = there-is i i<n in
      let g = proceed-match M L n i b s (m.process i) (v.processes i) in
      let f = g.follow in
      (f.cs, sim-replaced m s v i b _ (emitted M (m.process i).pending m.posted) f (fit-advance (m.process i).state (m.process i).pending (v.fit i)) (g.messages m.posted (λ x p. f.more x (v.messages x p))))
  sim-step m k s v (crash _ i i<n c l w) =
      let b = there-is i i<n in
      let y = fit_written (m.process i).state (m.process i).pending (v.fit i) in
      let r = read_kept M C (written M (m.process i)) c c (m.process i).state.durable y (omega arith) l in
      let f = stop-match M L n i b s (m.process i) (v.processes i) r.0 r.1 _ r.2 w in
      (f.cs, sim-replaced m s v i b _ m.posted f (fit-recovering r.0 (written M (m.process i)) _ y r.2) (λ x p. f.more x (v.messages x p)))

  initial-sim : Sim (initial M) (start M)
  initial-sim = record { messages = λ x k. elim k [ ]; processes = λ i. after (begun M) [] tt refl refl refl (λ m k. elim k [ ]); fit = λ i. ((C.began, tt), tt) }

  occurs-sim : (m : System M) → Occurs M C n m → (cs : List (Command M)) × Sim m (run M n cs (start M))
  unfolding run
  occurs-sim m initially = ([], initial-sim)
  occurs-sim m (next {m = l} p q) =
      let a = occurs-sim l p in
      let d = sim-step l m (run M n a.0 (start M)) a.1 q in
      (a.0 ++ d.0, subst⁻¹ (λ (y : Net M). Sim m y) (run-append M L n a.0 d.0 (start M)) d.1)

  covers : (m : System M) (s : Net M) → Sim m s → Covers M m s
  covers m s v = record { messages = v.messages; idle = λ i z. idle-match M n i s.sent (s.house i) (m.process i) (v.processes i) z }

pub interrupted : Interrupted
interrupted M L C n m few c = let a = occurs-sim M L C n few m c in (a.0, covers M L C n few m (run M n a.0 (start M)) a.1)
