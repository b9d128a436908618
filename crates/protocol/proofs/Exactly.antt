-- A house does a step whenever it may.
use mathlib.Core.Path.{◌≡◌, refl, ◌∙◌, ap}
use mathlib.Core.Bool.{Bool, true, false, cond, not}
use mathlib.Core.List.{[], ◌∷◌}
use mathlib.Core.Option.{Option}
use Prim.Native.Nat.{ℕ, ◌+◌, ◌<◌, ◌≤◌}
use native.Mathlib.Omega.{arith}
use lib.Dec.{T, leb, leb→le, ltb, ltb→lt}
use lib.ListN.{length}
use Rattle.protocol.specs.Model.{Model, most_held, most_bytes}
use Rattle.protocol.specs.House.{Held, Ruled}
use Rattle.protocol.specs.Net.{Asking, Yes}
use Rattle.protocol.specs.State.{State, rec_size}
use Rattle.protocol.specs.Plan.{Verdict, refused, does, Causes, unless, Output, speak, no_room, is_held_back, plan_hold, plan_new_hold, plan_rule_of}
use Rattle.protocol.specs.Exact.{ExactAt, Exact}
use Rattle.protocol.proofs.Basics.{is_true, is_false}
use Rattle.protocol.proofs.Runs.{Clear}

-- where no cause holds, the step is done
clear-does : {A : Type 0} (cs : Causes) (a : A) → Clear cs → unless cs a ≡ does a
unfolding unless
clear-does [] a k = refl
clear-does (c ∷ cs) a k = ap (λ (b : Bool). cond b (refused c.0) (unless cs a)) (is_false c.1 k.0) ∙ clear-does cs a k.1

not-not : (b : Bool) → T b → T (not b) → ⊥
not-not true p q = q
not-not false p q = p

not-over : (a b : ℕ) → a ≤ b → T (ltb b a) → ⊥
not-over a b l k = omega (arith, ltb→lt b a k)

module _ (M : Model) where
  abbrev again : ℕ → M.Order → Verdict (Output M)
  again i t = does (speak M (Yes i (M.name t) ∷ []))

  -- of an order of this house
  of-party : (i : ℕ) (t : M.Order) (v : State M) → T (M.party i t) → plan_hold M i t v ≡ cond (is_held_back M t v.held) (again i t) (plan_new_hold M i t v)
  of-party i t v p = ap (λ (b : Bool). cond (not b) (refused 7) (cond (is_held_back M t v.held) (again i t) (plan_new_hold M i t v))) (is_true (M.party i t) p)

  holds-new : (i : ℕ) (t : M.Order) (v : State M) → (T (v.ever (M.name t)) → ⊥) → T (M.clear i t v.held v.shelves) → T (M.sees_here i t v.shelves) → length v.held < most_held →
      v.bytes + rec_size M (Held t) ≤ most_bytes → Clear ((8, v.ever (M.name t)) ∷ (9, not (M.clear i t v.held v.shelves)) ∷ (10, not (M.sees_here i t v.shelves)) ∷ (11, leb most_held (length v.held)) ∷ (15, no_room M (Held t) v.bytes) ∷ [])
  holds-new i t v e c s l r = (e, (not-not _ c, (not-not _ s, (λ k. omega (arith, leb→le most_held (length v.held) k), (not-over (v.bytes + rec_size M (Held t)) most_bytes r, tt)))))

  pub exact-at : ExactAt M
  exact-at = record {
    holds = λ i t v p old e c s l r.
        of-party i t v p ∙ ap (λ (b : Bool). cond b (again i t) (plan_new_hold M i t v)) (is_false (is_held_back M t v.held) old) ∙ clear-does _ _ (holds-new i t v e c s l r);
    holds_again = λ i t v p old. of-party i t v p ∙ ap (λ (b : Bool). cond b (again i t) (plan_new_hold M i t v)) (is_true (is_held_back M t v.held) old);
    learns = λ d v k r. (clear-does _ _ (not-not _ k, (not-over (v.bytes + 10) most_bytes r, tt)), clear-does _ _ (not-not _ k, (not-over (v.bytes + 10) most_bytes r, tt)));
    rules = λ d bytes m a e y r. ap (λ (o : Option (Asking M)). plan_rule_of M o bytes m) e ∙ clear-does _ _ (not-not _ y, (not-over (bytes + rec_size M (Ruled a.order)) most_bytes r, tt));
  }

pub exact : Exact
exact M = exact-at M
