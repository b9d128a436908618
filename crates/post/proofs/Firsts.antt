-- The place of the first order of a name, and the order there.
use Rattle.std.proofs.Common.{◌≡◌, ℕ, suc, ◌<◌, Bool, true, false, cond, List, [], ◌∷◌, ◌++◌, map, length, get_or, Some, None, Option, sym, refl, ap, ◌∙◌, subst, arith}
use Rattle.std.specs.Option.{option_map}
use Rattle.protocol.specs.declared.Name.{Name}
use Rattle.protocol.specs.Model.{same_name}
use Rattle.orders.specs.Order.{Order}
use Rattle.entries.specs.Named.{named_of}
use Rattle.entries.specs.declared.named.NamedOrder.{NamedOrder}
use Rattle.post.specs.Places.{or_else, only_if}
use Rattle.post.specs.First.{first_place}
use Rattle.post.specs.Holds.{hold_named}

-- h is the order at that place, or there is none
abbrev Stands : Option Order → List NamedOrder → Option ℕ → Type 0
Stands h os None = h ≡ None
Stands h os (Some k) = (k < length os) × ((d : NamedOrder) → h ≡ Some (named_of (get_or os k d)))

stands-more : (b : Bool) (h : Option Order) (o : NamedOrder) (os : List NamedOrder) (p : Option ℕ) → Stands h os p → Stands (cond b (Some (named_of o)) h) (o ∷ os) (cond b (Some 0) (option_map suc p))
stands-more true h o os p s = (omega arith, λ d. refl)
stands-more false h o os None s = s
stands-more false h o os (Some k) s = (omega (arith, s.0), s.1)

stands : (n : Name) (os : List NamedOrder) → Stands (hold_named n (map named_of os)) os (first_place n os)
unfolding first_place hold_named
stands n [] = refl
stands n (o ∷ os) = stands-more (same_name n o.name) (hold_named n (map named_of os)) o os (first_place n os) (stands n os)

module _ (n : Name) (os : List NamedOrder) (p : Option ℕ) (t : p ≡ first_place n os) where
  -- what the index says of a name
  looked-up : Stands (hold_named n (map named_of os)) os p
  looked-up = subst (Stands (hold_named n (map named_of os)) os) (sym t) (stands n os)

  pub place-within : (k : ℕ) → p ≡ Some k → k < length os
  place-within k e = (subst (Stands (hold_named n (map named_of os)) os) e looked-up).0

  pub order-there : (k : ℕ) (o : NamedOrder) → p ≡ Some k → o ≡ get_or os k o → Some (named_of o) ≡ hold_named n (map named_of os)
  order-there k o e g = ap (λ (x : NamedOrder). Some (named_of x)) g ∙ sym ((subst (Stands (hold_named n (map named_of os)) os) e looked-up).1 o)

  pub none-there : p ≡ None → None ≡ hold_named n (map named_of os)
  none-there e = sym (subst (Stands (hold_named n (map named_of os)) os) e looked-up)

snoc-step : (a : Bool) (p : Option ℕ) (s : Bool) (k : ℕ) → cond a (Some 0) (option_map suc (or_else p (only_if s k))) ≡ or_else (cond a (Some 0) (option_map suc p)) (only_if s (suc k))
snoc-step true p s k = refl
snoc-step false (Some j) s k = refl
snoc-step false None true k = refl
snoc-step false None false k = refl

first-snoc : (n : Name) (os : List NamedOrder) (o : NamedOrder) → first_place n (os ++ o ∷ []) ≡ or_else (first_place n os) (only_if (same_name n o.name) (length os))
unfolding first_place
first-snoc n [] o = refl
first-snoc n (x ∷ os) o = ap (λ p. cond (same_name n x.name) (Some 0) (option_map suc p)) (first-snoc n os o) ∙ snoc-step (same_name n x.name) (first_place n os) (same_name n o.name) (length os)

-- the index of no orders
pub indexed-none : (n : Name) (os : List NamedOrder) (p : Option ℕ) → os ≡ [] → p ≡ None → p ≡ first_place n os
unfolding first_place
indexed-none n os p a e = e ∙ ap (first_place n) (sym a)

-- the index after one more order
pub indexed-more : (n : Name) (os after : List NamedOrder) (o : NamedOrder) (k : ℕ) (p q : Option ℕ) → after ≡ os ++ o ∷ [] → k ≡ length os → p ≡ first_place n os → q ≡ or_else p (only_if (same_name n o.name) k) → q ≡ first_place n after
indexed-more n os after o k p q a l t e = rw (a, e, l, t) (sym (first-snoc n os o))
