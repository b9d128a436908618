-- A process in the midst of a step, beside the house of whole steps that covers it.
use mathlib.Core.Path.{◌≡◌, refl, sym, ◌∙◌, ap, ap₂, subst}
use mathlib.Core.Bool.{Bool, cond, not}
use mathlib.Core.List.{List, [], ◌∷◌, ◌++◌, Memᴰ, append-nil, append_assoc}
use Prim.Native.Nat.{ℕ, ◌+◌, ◌≤◌}
use native.Mathlib.Omega.{arith}
use lib.Dec.{T, T_not, leb}
use lib.ListN.{length, take}
use Rattle.protocol.specs.Model.{Model, most_starts}
use Rattle.protocol.specs.House.{Rec, Began, starts}
use Rattle.protocol.specs.Net.{no_memory, House, Msg, restarted}
use Rattle.protocol.specs.State.{file_size}
use Rattle.protocol.specs.Plan.{Input, refused, does, unless, Work, no_room, unsynced, whole_in, restart}
use Rattle.protocol.specs.Crash.{Effect, Append, Sync, Remember, Send, Process, appends, sendings, after_appends, batch, perform, emit, in_flight, recovering, may_come_up, AllTaken}
use Rattle.protocol.proofs.Basics.{by_bool, is_false, and_l, and_r}

module _ (M : Model) where
  -- effects that leave the file alone
  abbrev pub SoftOf : Effect M → Type 0
  SoftOf (Append r) = ⊥
  SoftOf Sync = ⊥
  SoftOf (Remember m') = Unit {0}
  SoftOf (Send m) = Unit {0}

  abbrev pub Soft : List (Effect M) → Type 0
  Soft [] = Unit {0}
  Soft (e ∷ es) = SoftOf e × Soft es

  abbrev pub finish : List (Effect M) → House M → House M
  finish [] h = h
  finish (e ∷ es) h = finish es (perform M e h)

  abbrev pub sent_by : List (Effect M) → List (Msg M)
  sent_by [] = []
  sent_by (e ∷ es) = emit M e (sent_by es)

  abbrev pub wrote : House M → List (Rec M) → House M
  wrote h rs = record { file = h.file ++ rs; durable = h.durable; memory = h.memory }

  abbrev pub starting : List (Rec M) → Process M
  starting f = record { state = record { file = f ++ (Began ∷ []); durable = length f; memory = no_memory M }; pending = Sync ∷ [] }

  -- how a process stands to the same house in the network of whole steps, h, where ms were sent
  pub data Match (n i : ℕ) (ms : List (Msg M)) (h : House M) : Process M → Type 0 where
    before : (xs : List (Input M)) → AllTaken M n xs ms → (rs qs : List (Rec M)) → (batch M i xs h).out.adds ≡ rs ++ qs →
        Match n i ms h (record { state = wrote h rs; pending = appends M qs (after_appends M (batch M i xs h)) })
    after : (g : House M) (es : List (Effect M)) → Soft es → g.file ≡ h.file → g.durable ≡ h.durable → finish es g ≡ h → ((m : Msg M) → Memᴰ m (sent_by es) → Memᴰ m ms) →
        Match n i ms h (record { state = g; pending = es })
    recovers : (k : ℕ) → h.durable ≤ k → T (may_come_up M (take k h.file)) → Match n i ms h (recovering M (take k h.file))
    starts-up : (k : ℕ) → h.durable ≤ k → T (may_come_up M (take k h.file)) → Match n i ms h (starting (take k h.file))

  pub after_appends-some : (w : Work M) → after_appends M w ≡ [] → ⊥
  after_appends-some w = by_bool (λ b. cond b (Sync ∷ (Remember w.memory ∷ sendings M w.out.sends)) (Remember w.memory ∷ sendings M w.out.sends) ≡ [] → ⊥) w.out.syncs
      (λ _ e. let z : ◌≡◌ {A = ℕ} 0 1 = cc in omega arith) (λ _ e. let z : ◌≡◌ {A = ℕ} 0 1 = cc in omega arith)

  pub appends-some : (qs : List (Rec M)) (w : Work M) → appends M qs (after_appends M w) ≡ [] → ⊥
  unfolding appends
  appends-some [] w e = after_appends-some w e
  appends-some (q ∷ qs) w e = let z : ◌≡◌ {A = ℕ} 0 1 = cc in omega arith

  -- a house with nothing left to do is as there
  pub idle-match : (n i : ℕ) (ms : List (Msg M)) (h : House M) (d : Process M) → Match n i ms h d → d.pending ≡ [] → d.state ≡ h
  idle-match n i ms h d (before xs al rs qs e) z = absurd (appends-some qs (batch M i xs h) z)
  idle-match n i ms h d (after g es so a b f c) z = subst (λ (y : List (Effect M)). finish y g ≡ h) z f
  idle-match n i ms h d (recovers k l w) z = let z : ◌≡◌ {A = ℕ} 0 1 = cc in absurd (omega arith)
  idle-match n i ms h d (starts-up k l w) z = let z : ◌≡◌ {A = ℕ} 0 1 = cc in absurd (omega arith)

  -- what is being written besides
  pub in_flight-rest : (w : Work M) → in_flight M (after_appends M w) ≡ []
  in_flight-rest w = by_bool (λ b. in_flight M (cond b (Sync ∷ (Remember w.memory ∷ sendings M w.out.sends)) (Remember w.memory ∷ sendings M w.out.sends)) ≡ []) w.out.syncs (λ _. refl) (λ _. refl)

  pub in_flight-soft : (es : List (Effect M)) → Soft es → in_flight M es ≡ []
  in_flight-soft [] s = refl
  in_flight-soft (Append r ∷ es) s = absurd s.0
  in_flight-soft (Sync ∷ es) s = absurd s.0
  in_flight-soft (Remember m' ∷ es) s = refl
  in_flight-soft (Send m ∷ es) s = refl

  pub in_flight-before : (f adds rs qs : List (Rec M)) (w : Work M) → adds ≡ rs ++ qs →
      (rs' : List (Rec M)) × (qs' : List (Rec M)) × (adds ≡ rs' ++ qs') × ((f ++ rs) ++ in_flight M (appends M qs (after_appends M w)) ≡ f ++ rs')
  unfolding appends
  in_flight-before f adds rs [] w e = (rs, [], e, ap (λ (y : List (Rec M)). (f ++ rs) ++ y) (in_flight-rest w) ∙ append-nil (f ++ rs))
  in_flight-before f adds rs (q ∷ qs) w e = (rs ++ (q ∷ []), qs, e ∙ sym (append_assoc rs (q ∷ []) qs), append_assoc f rs (q ∷ []))

  pub soft-sendings : (ms : List (Msg M)) → Soft (sendings M ms)
  unfolding sendings
  soft-sendings [] = tt
  soft-sendings (m ∷ ms) = (tt, soft-sendings ms)

  pub finish-sendings : (ms : List (Msg M)) (h : House M) → finish (sendings M ms) h ≡ h
  unfolding sendings
  finish-sendings [] h = refl
  finish-sendings (m ∷ ms) h = finish-sendings ms h

  pub sent-sendings : (ms : List (Msg M)) → sent_by (sendings M ms) ≡ ms
  unfolding sendings
  sent-sendings [] = refl
  sent-sendings (m ∷ ms) = ap (λ (y : List (Msg M)). m ∷ y) (sent-sendings ms)

  -- what may come up, does
  pub restart-does : (k b : ℕ) (h : House M) → T (may_come_up M (take k h.file)) → take (h.durable + whole_in M b (unsynced M h)) h.file ≡ take k h.file → restart M b h ≡ does (restarted M k h)
  unfolding unless
  restart-does k b h w e =
      let f = take k h.file in
      let x = leb most_starts (starts M f) in
      let y = no_room M Began (file_size M f) in
      let up : List (Rec M) → House M = λ g. record { file = g ++ (Began ∷ []); durable = length (g ++ (Began ∷ [])); memory = no_memory M } in
      ap (λ (g : List (Rec M)). unless ((3, leb most_starts (starts M g)) ∷ (15, no_room M Began (file_size M g)) ∷ []) (up g)) e
      ∙ ap₂ (λ (x y : Bool). cond x (refused 3) (cond y (refused 15) (does (up f)))) (is_false x (T_not x (and_l (not x) (not y) w))) (is_false y (T_not y (and_r (not x) (not y) w)))
