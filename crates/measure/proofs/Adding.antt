-- The numbers of answers, added up one by one.
use Rattle.std.proofs.Common.{◌≡◌, ℕ, ◌+◌, ◌%◌, ◌^◌, refl, ap, ◌∙◌}
use native.Mathlib.Numerals.{suc-eq-add-one}
use Rattle.protocol.specs.State.{State}
use Rattle.protocol.specs.Plan.{plan_hold}
use Rattle.orders.specs.Order.{Order, entry_model}
use Rattle.measure.specs.Measured.{number_in, renumbered, answers}

pub none_yet : (h : ℕ) (t : Order) (v : State entry_model) → 0 ≡ answers h t v 0
unfolding answers
none_yet h t v = refl

-- with the answer to u, which is t under the number k
pub one_more : (h : ℕ) (t u : Order) (v : State entry_model) (k sum a b : ℕ) → sum ≡ answers h t v k → a ≡ b → b ≡ number_in (plan_hold entry_model h u v) → u ≡ renumbered t k → (sum + a) % 2 ^ 64 ≡ answers h t v (k + 1)
unfolding answers
one_more h t u v k sum a b is same answer asked =
    ap (λ (s : ℕ). (s + a) % 2 ^ 64) is
    ∙ ap (λ (x : ℕ). (answers h t v k + x) % 2 ^ 64) (same ∙ answer ∙ ap (λ (w : Order). number_in (plan_hold entry_model h w v)) asked)
    ∙ ap (answers h t v) (suc-eq-add-one k)
