-- A set of names for each home.
use Rattle.std.proofs.Common.{◌≡◌, ℕ, zero, suc, ◌<◌, ◌≤◌, Bool, true, false, cond, ◌||◌, List, [], ◌∷◌, ◌++◌, length, take, set, get_or, Some, None, Option, MatchOption, Bor, refl, arith}
use Rattle.std.proofs.lemmas.Bool.Decides.{nat_tests}
use Rattle.std.proofs.lemmas.List.{take_all}
use Rattle.std.proofs.lemmas.Option.{slice_get_past, slice_get-get_or}
use Rattle.std.specs.List.{FoldsTo, AppendsResults, HoldsAt, slice_get}
use Rattle.std.specs.BTreeMap.{is_at}
use Rattle.std.specs.BTreeSet.{BTreeSet, contains}
use Rattle.protocol.specs.declared.Name.{Name}
use Rattle.protocol.specs.Model.{same_name}
use Rattle.names.specs.Names.{name_cmp}
use Rattle.names.specs.Index.{in_set}

-- what a look-up in the set of the name's home answers
pub found : (xs : List (BTreeSet Name)) (n : Name) (o : Option (Bor (BTreeSet Name))) (b : Bool) → MatchOption o (length xs ≤ n.home) (λ x. (n.home < length xs) × HoldsAt (λ y. x.now ≡ y) xs n.home) → MatchOption o (b ≡ false) (λ x. b ≡ contains name_cmp x.now n) → b ≡ in_set (slice_get xs n.home) n
found xs n None b l e = rw (slice_get_past xs n.home l) e
found xs n (Some x) b l e = rw (slice_get-get_or xs n.home x.now l.0, ← l.1 x.now) e

pub at-name : (n m : Name) → is_at (name_cmp n) m ≡ same_name m n
at-name n m = grind (arith, nat_tests)

pub differ : (m n : Name) → (m.home ≡ n.home → ⊥) → same_name m n ≡ false
differ m n d = grind (arith, nat_tests)

pub cond-or : (a b x : Bool) → a ≡ b → cond a true x ≡ (b || x)
cond-or true b x e = cc
cond-or false b x e = cc

-- y, which has the name n more, in the place of x, the set at h
module _ (x y : BTreeSet Name) (n m : Name) (s : contains name_cmp y m ≡ cond (is_at (name_cmp n) m) true (contains name_cmp x m)) where
  pub homes-set : (xs : List (BTreeSet Name)) (h k : ℕ) → h < length xs → x ≡ get_or xs h x → ((k ≡ h → ⊥) → same_name m n ≡ false) → in_set (slice_get (set xs h y) k) m ≡ (same_name m n || in_set (slice_get xs k) m)
  homes-set [] h k l e d = absurd (omega arith)
  homes-set (z ∷ xs) zero zero l e d = let f : x ≡ z = e in let t = cond-or _ _ (contains name_cmp x m) (at-name n m) in cc
  homes-set (z ∷ xs) zero (suc k) l e d = rw (d (λ q. cc)) refl
  homes-set (z ∷ xs) (suc h) zero l e d = rw (d (λ q. cc)) refl
  homes-set (z ∷ xs) (suc h) (suc k) l e d = homes-set xs h k (omega arith) e (λ q. d (λ p. q (omega arith)))

-- the homes ys, whose sets are empty
module _ {F : Type 0} (step : F → BTreeSet Name → F → Type 0) (empty : (f : F) (s : BTreeSet Name) (g : F) → step f s g → s.keys ≡ []) where
  in-empty : (ys : List (BTreeSet Name)) (f last : F) → FoldsTo step f ys last → (k : ℕ) (m : Name) → in_set (slice_get ys k) m ≡ false
  in-empty [] f last h k m = refl
  in-empty (y ∷ ys) f last h zero m = rw (empty f y h.0 h.1) refl
  in-empty (y ∷ ys) f last h (suc k) m = in-empty ys h.0 last h.2 k m

  in-more : (xs ys : List (BTreeSet Name)) (f last : F) → FoldsTo step f ys last → (k : ℕ) (m : Name) → in_set (slice_get (xs ++ ys) k) m ≡ in_set (slice_get xs k) m
  in-more [] ys f last h k m = in-empty ys f last h k m
  in-more (x ∷ xs) ys f last h zero m = refl
  in-more (x ∷ xs) ys f last h (suc k) m = in-more xs ys f last h k m

  pub homes-grown : (xs after : List (BTreeSet Name)) (c : ℕ) (f : F) → AppendsResults step (take c xs) after f → length xs ≤ c → (k : ℕ) (m : Name) → in_set (slice_get after k) m ≡ in_set (slice_get xs k) m
  homes-grown xs after c f h l k m = rw (h.2, take_all c xs l) (in-more xs h.0 f h.1 h.3 k m)
