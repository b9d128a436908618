-- The orders held back by value, and what the model says of the orders that they stand for.
use Rattle.std.proofs.Common.{◌≡◌, ℕ, nat_eq, ◌+◌, ◌<◌, ◌≤◌, Bool, true, false, cond, not, ◌&&◌, ◌||◌, List, [], ◌∷◌, map, length, get_or, drop, sym, refl, ap, ◌∙◌}
use Rattle.std.specs.List.{list_any, filter}
use Rattle.std.proofs.Math.Bool.{and_assoc}
use Rattle.std.proofs.lemmas.List.{at_drop_more, at_drop_all}
use Rattle.protocol.specs.declared.Name.{Name}
use Rattle.protocol.specs.Model.{same_name}
use Rattle.protocol.specs.House.{is_in, without, done_of}
use Rattle.protocol.specs.Plan.{is_held_back}
use Rattle.orders.specs.Order.{Order, same_order, clash, clashes, ours, entry_model}
use Rattle.entries.specs.declared.named.NamedOrder.{NamedOrder}
use Rattle.entries.specs.Named.{named_of}

-- as `==` compares two names
abbrev pub equal : Name → Name → Bool
equal a b = nat_eq a.home b.home && (nat_eq a.start b.start && nat_eq a.number b.number)

pub equal_is : (a b : Name) → equal a b ≡ same_name a b
equal_is a b = sym (and_assoc (nat_eq a.home b.home) (nat_eq a.start b.start) (nat_eq a.number b.number))

pub named_is : (d : Name) (xs : List NamedOrder) → list_any (λ (u : NamedOrder). equal d u.name) xs ≡ is_in entry_model d (map named_of xs)
unfolding is_in
named_is d [] = refl
named_is d (x ∷ xs) = λ i. equal_is d x.name i || named_is d xs i

pub same_is : (t : Order) (xs : List NamedOrder) → list_any (λ (u : NamedOrder). same_order t (named_of u)) xs ≡ is_held_back entry_model t (map named_of xs)
unfolding is_held_back
same_is t [] = refl
same_is t (x ∷ xs) = ap (λ b. same_order t (named_of x) || b) (same_is t xs)

pub clashes_is : (t : Order) (xs : List NamedOrder) → list_any (λ (u : NamedOrder). clash t (named_of u)) xs ≡ clashes t (map named_of xs)
clashes_is t [] = refl
clashes_is t (x ∷ xs) = ap (λ b. clash t (named_of x) || b) (clashes_is t xs)

either : (b : Bool) (x : NamedOrder) (xs : List NamedOrder) → map named_of (cond (not b) (x ∷ xs) xs) ≡ cond b (map named_of xs) (named_of x ∷ map named_of xs)
either true x xs = refl
either false x xs = refl

-- those of any other name
pub others_is : (d : Name) (xs : List NamedOrder) → map named_of (filter (λ (u : NamedOrder). not (equal d u.name)) xs) ≡ without entry_model d (map named_of xs)
unfolding without
others_is d [] = refl
others_is d (x ∷ xs) =
    either (equal d x.name) x (filter (λ (u : NamedOrder). not (equal d u.name)) xs)
    ∙ (λ i. cond (equal_is d x.name i) (others_is d xs i) (named_of x ∷ others_is d xs i))

-- a loop that writes the entries of those of a name
module _ (h : ℕ) (d : Name) (xs : List NamedOrder) (i : ℕ) (m : List ℕ) where
  -- what is done of the i-th and those behind it
  abbrev pub done_from : List ℕ
  done_from = done_of entry_model h d (map named_of (drop i xs)) m

  -- of the i-th, x, alone
  abbrev wrote : Bool → NamedOrder → List ℕ
  wrote b x = cond b (ours h (named_of x).writes m) m

  pub done_more : (x : NamedOrder) → i < length xs → x ≡ get_or xs i x → (b : Bool) → equal d x.name ≡ b → (n : List ℕ) → n ≡ wrote b x → done_of entry_model h d (map named_of (drop (i + 1) xs)) n ≡ done_from
  unfolding done_of
  done_more x l e b t n w =
      ap (done_of entry_model h d (map named_of (drop (i + 1) xs))) (w ∙ ap (λ c. wrote c x) (sym t ∙ equal_is d x.name) ∙ ap (λ (y : NamedOrder). wrote (same_name d y.name) y) e)
      ∙ sym (at_drop_more (λ ys. done_of entry_model h d (map named_of ys) m) xs i x l)

  pub done_end : length xs ≤ i → done_from ≡ m
  unfolding done_of
  done_end l = at_drop_all (λ ys. done_of entry_model h d (map named_of ys) m) xs i l
