-- What it says of the messages sent that a hold of a name was found, or was not: for users of `find_hold`.
use Rattle.std.proofs.Common.{◌≡◌, Bool, true, false, cond, ◌&&◌, ◌||◌, T, List, [], ◌∷◌, Some, None, Option, sym, refl, ap, ◌∙◌, subst}
use lib.Dec.{eqb_refl}
use Rattle.protocol.specs.declared.Name.{Name}
use Rattle.protocol.specs.Model.{same_name}
use Rattle.protocol.specs.Net.{Hold}
use Rattle.protocol.proofs.Basics.{is_true, and_both, same-eq, same_refl, eq-same, by_id}
use Rattle.orders.specs.declared.Entry.{Entry}
use Rattle.orders.specs.Order.{Order, same_entries, same_order, any_by}
use Rattle.post.specs.declared.Post.{Post}
use Rattle.post.specs.Holds.{hold_named}
use Rattle.post.specs.Posted.{posted, holds_of}

entries-refl : (es : List Entry) → T (same_entries es es)
unfolding same_entries
entries-refl [] = tt
entries-refl (e ∷ es) = and_both _ _ (and_both _ _ (eqb_refl e.key) (eqb_refl e.amount)) (entries-refl es)

order-refl : (t : Order) → same_order t t ≡ true
order-refl t = is_true _ (and_both _ _ (and_both _ _ (same_refl t.name) (entries-refl t.reads)) (entries-refl t.writes))

differ : (t u : Order) → (t.name ≡ u.name → ⊥) → same_order t u ≡ false
differ t u d = by_id (λ b. (b && same_entries t.reads u.reads && same_entries t.writes u.writes) ≡ false) t.name u.name (λ q. absurd (d q)) (λ _. refl)

or-true : (b : Bool) → (b || true) ≡ true
or-true true = refl
or-true false = refl

-- an order that is found is in the list and has the name; where none is found, no order of that name is in it
abbrev Searched : Name → List Order → Option Order → Type 0
Searched n ts None = (t : Order) → t.name ≡ n → any_by (same_order t) ts ≡ false
Searched n ts (Some t) = (any_by (same_order t) ts ≡ true) × (t.name ≡ n)

later : (n : Name) (u : Order) (ts : List Order) (o : Option Order) → (n ≡ u.name → ⊥) → Searched n ts o → Searched n (u ∷ ts) o
later n u ts None d h = λ t e. ap (λ b. b || any_by (same_order t) ts) (differ t u (λ q. d (sym e ∙ q))) ∙ h t e
later n u ts (Some t) d h = (ap (λ b. same_order t u || b) h.0 ∙ or-true (same_order t u), h.1)

found : (n : Name) (ts : List Order) → Searched n ts (hold_named n ts)
unfolding hold_named
found n [] = λ t e. refl
found n (u ∷ ts) =
    by_id (λ b. Searched n (u ∷ ts) (cond b (Some u) (hold_named n ts))) n u.name
    (λ q. (ap (λ b. b || any_by (same_order u) ts) (order-refl u), sym q))
    (λ d. later n u ts (hold_named n ts) d (found n ts))

pub hold-found : (p : Post) (n : Name) (t : Order) → Some t ≡ hold_named n (holds_of p) → (posted p (Hold t) ≡ true) × (same_name t.name n ≡ true)
hold-found p n t e =
    let h = subst (Searched n (holds_of p)) (sym e) (found n (holds_of p)) in
    (h.0, is_true _ (eq-same t.name n h.1))

pub hold-missing : (p : Post) (n : Name) → None ≡ hold_named n (holds_of p) → (t : Order) → same_name t.name n ≡ true → posted p (Hold t) ≡ false
hold-missing p n e t s = subst (Searched n (holds_of p)) (sym e) (found n (holds_of p)) t (same-eq t.name n (subst T (sym s) tt))
