-- A map of places for each home.
use Rattle.std.proofs.Common.{◌≡◌, ℕ, zero, suc, ◌<◌, Bool, true, false, cond, ◌&&◌, List, [], ◌∷◌, length, set, get_or, Some, None, Option, refl, ap, ◌∙◌, arith}
use Rattle.std.specs.Option.{unwrap_or}
use Rattle.std.specs.List.{slice_get}
use Rattle.std.specs.Map.{lookup}
use Rattle.std.specs.BTreeMap.{BTreeMap, get, is_at}
use Rattle.protocol.specs.declared.Name.{Name}
use Rattle.protocol.specs.Model.{same_name}
use Rattle.protocol.proofs.Basics.{by_id}
use Rattle.names.specs.Names.{name_cmp}
use Rattle.names.proofs.Homes.{at-name}
use Rattle.post.specs.Places.{place_in, or_else, only_if}

or-none : (p : Option ℕ) → p ≡ or_else p None
or-none None = refl
or-none (Some k) = refl

or-place : (p : Option ℕ) (k : ℕ) → Some (unwrap_or p k) ≡ or_else p (Some k)
or-place None k = refl
or-place (Some j) k = refl

and-none : (b : Bool) → (b && false) ≡ false
and-none true = refl
and-none false = refl

-- the entries es, where the name n has the place w, beside x
pub placed : (x : BTreeMap Name ℕ) (es : List (Name × ℕ)) (n m : Name) (k w : ℕ) → w ≡ unwrap_or (get name_cmp x n) k → lookup (is_at (name_cmp m)) es ≡ cond (is_at (name_cmp n) m) (Some w) (get name_cmp x m) → lookup (is_at (name_cmp m)) es ≡ or_else (get name_cmp x m) (only_if (same_name m n) k)
placed x es n m k w v u =
    u
    ∙ ap (λ b. cond b (Some w) (get name_cmp x m)) (at-name n m)
    ∙ by_id (λ b. cond b (Some w) (get name_cmp x m) ≡ or_else (get name_cmp x m) (only_if b k)) m n
    (λ q. rw (v, q) (or-place (get name_cmp x n) k))
    (λ d. or-none (get name_cmp x m))

-- y, where the name n has the place k if it had none, in the place of x, the map at h
module _ (x y : BTreeMap Name ℕ) (b : Bool) (n m : Name) (k : ℕ) (s : get name_cmp y m ≡ or_else (get name_cmp x m) (only_if (b && same_name m n) k)) where
  pub homes-set : (xs : List (BTreeMap Name ℕ)) (h j : ℕ) → h < length xs → x ≡ get_or xs h x → ((j ≡ h → ⊥) → same_name m n ≡ false) → place_in (slice_get (set xs h y) j) m ≡ or_else (place_in (slice_get xs j) m) (only_if (b && same_name m n) k)
  homes-set [] h j l e d = absurd (omega arith)
  homes-set (z ∷ xs) zero zero l e d = let f : x ≡ z = e in rw (← f) s
  homes-set (z ∷ xs) zero (suc j) l e d = rw (d (λ q. cc), and-none b) (or-none (place_in (slice_get xs j) m))
  homes-set (z ∷ xs) (suc h) zero l e d = rw (d (λ q. cc), and-none b) (or-none (get name_cmp z m))
  homes-set (z ∷ xs) (suc h) (suc j) l e d = homes-set xs h j (omega arith) e (λ q. d (λ p. q (omega arith)))
