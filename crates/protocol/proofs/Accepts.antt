-- Whatever comes to a house with its numbers in range leads only to records that can be written.
use mathlib.Core.Path.{subst, subst⁻¹}
use mathlib.Core.Bool.{Bool, true, false, cond, not}
use mathlib.Core.List.{List, [], ◌∷◌}
use Prim.Native.Nat.{ℕ}
use lib.Dec.{T, eqb, ltb, lt→ltb}
use Rattle.protocol.specs.declared.Name.{Name}
use Rattle.protocol.specs.Model.{Model, houses_ok, name_ok}
use Rattle.protocol.specs.Laws.{Laws}
use Rattle.protocol.specs.House.{Done, Dropped, holding, ruled}
use Rattle.protocol.specs.Net.{House, Yes, Net, start, Reach}
use Rattle.protocol.specs.State.{state_of}
use Rattle.protocol.specs.Plan.{Input, do_submit, do_hold, do_vote, do_rule, do_give_up, do_answer, do_learn, do_sync, Verdict, refused, does, Output, Work, speak, is_held_back, keeping, plan, plan_new_hold, plan_rule_of, plan_give_up_of}
use Rattle.protocol.specs.Run.{deliver, input_ok, house_ok, step, run}
use Rattle.protocol.specs.Crash.{Codec, AllFit, combine_with, batch, AllTaken, FitsValid, AcceptsAt}
use Rattle.protocol.proofs.Basics.{and_both}
use Rattle.protocol.proofs.Reached.{reach-keeps}
use Rattle.protocol.proofs.Valid.{sent-valid}
use Rattle.protocol.proofs.Runs.{by-unless, by_cond, ask-mem, step-reach, run-start}
use Rattle.protocol.proofs.Local.{step-only, all_more}
use Rattle.protocol.proofs.Torn.{fit-both}
use Rattle.protocol.proofs.Covered.{interrupted}

module _ (M : Model) (L : Laws M) (C : Codec M) (n : ℕ) (fv : FitsValid M C n) where
  -- all that a step writes fits
  abbrev pub Fits : Verdict (Work M) → Type 0
  Fits (refused k) = Unit {0}
  Fits (does w) = AllFit C w.out.adds

  learnt : (d : Name) (b : Bool) → T (name_ok n d) → T (C.fits (cond b (Done d) (Dropped d)))
  learnt d true k = (fv.names d k).0
  learnt d false k = (fv.names d k).1

  module _ (s : Net M) (p : Reach M n s) (i : ℕ) where
    abbrev h : House M
    h = s.house i

    pub plan-fits : (x : Input M) → T (input_ok M n x) → Fits (plan M i x h)
    plan-fits (do_submit t) ok = by-unless Fits _ _ (λ k. tt) (λ c. tt)
    plan-fits (do_hold t) ok =
        let Kept : Verdict (Output M) → Type 0 = λ o. Fits (keeping M h.memory o) in
        let again : Verdict (Output M) = does (speak M (Yes i (M.name t) ∷ [])) in
        let new = plan_new_hold M i t (state_of M i h.file) in
        let old = is_held_back M t (holding M [] h.file) in
        by_cond Kept (not (M.party i t)) (refused 7) (cond old again new) (λ _. tt) (λ _. by_cond Kept old again new (λ _. tt) (λ _. by-unless Kept _ _ (λ k. tt) (λ c. ((fv.orders t ok).0, tt))))
    plan-fits (do_vote j d) ok = by-unless Fits _ _ (λ k. tt) (λ c. tt)
    plan-fits (do_rule d) ok = ask-mem M (λ o. Fits (plan_rule_of M o (state_of M i h.file).bytes h.memory)) d h.memory.asking tt (λ a k.
        by-unless Fits _ _ (λ k. tt) (λ c. ((fv.orders a.order (sent-valid M n s p a.order ((reach-keeps M L n s p).asks i a k).known)).1, tt)))
    plan-fits (do_give_up d) ok = ask-mem M (λ o. Fits (plan_give_up_of M o h.memory)) d h.memory.asking tt (λ a k. tt)
    plan-fits (do_answer d) ok =
        let Kept : Verdict (Output M) → Type 0 = λ o. Fits (keeping M h.memory o) in
        by_cond Kept (not (eqb d.home i)) (refused 14) _ (λ _. tt) (λ _. by_cond Kept (ruled M d h.file) _ _ (λ _. tt) (λ _. by-unless Kept _ _ (λ k. tt) (λ c. tt)))
    plan-fits (do_learn d b) ok = by-unless (λ o. Fits (keeping M h.memory o)) _ _ (λ k. tt) (λ c. (learnt d b ok, tt))
    plan-fits do_sync ok = tt

  join-fits : (v : Verdict (Work M)) (w : Work M) → Fits v → AllFit C w.out.adds → AllFit C (combine_with M v w).out.adds
  join-fits (refused k) w a b = b
  join-fits (does o) w a b = fit-both M C o.out.adds w.out.adds a b

  -- all that several inputs write fits
  pub batch-fits : (i : ℕ) → T (house_ok M n i) → (xs : List (Input M)) (s : Net M) → Reach M n s → AllTaken M n xs s.sent → AllFit C (batch M i xs (s.house i)).out.adds
  unfolding batch
  batch-fits i b [] s p al = tt
  batch-fits i b (x ∷ xs) s p al =
      let t = (step M n (deliver i x) s).1 in
      let o = step-only M L n i b x s al.0 al.1 in
      let more = batch-fits i b xs t (step-reach M L n (deliver i x) s p) (all_more M L s.sent t.sent o.more n xs al.2) in
      join-fits (plan M i x (s.house i)) _ (plan-fits s p i x al.1) (subst (λ (y : House M). AllFit C (batch M i xs y).out.adds) o.here more)

pub accepts : (M : Model) → Laws M → AcceptsAt M
accepts M L C n m few fv oc i l z xs al =
    let a = interrupted M L C n m few oc in
    let s = run M n a.0 (start M) in
    let e = a.1.idle i z in
    subst⁻¹ (λ (y : House M). AllFit C (batch M i xs y).out.adds) e
    (batch-fits M L C n fv i (and_both (houses_ok n) (ltb i n) few (lt→ltb i n l)) xs s (run-start M L n a.0) (all_more M L m.posted s.sent a.1.messages n xs al))
