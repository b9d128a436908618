-- A list that got longer, with what is said of an element, or of none past the end.
use Rattle.std.proofs.Common.{◌≡◌, ℕ, zero, suc, ◌≤◌, List, [], ◌∷◌, ◌++◌, length, take, Some, None, Option, refl}
use Rattle.std.proofs.lemmas.List.{take_all}
use Rattle.std.specs.List.{FoldsTo, AppendsResults, slice_get}

-- the elements ys more, of each of which is said what is said of none
module _ {X R F : Type 0} (said : Option X → R) (step : F → X → F → Type 0) (empty : (f : F) (x : X) (g : F) → step f x g → said (Some x) ≡ said None) where
  in-empty : (ys : List X) (f last : F) → FoldsTo step f ys last → (k : ℕ) → said (slice_get ys k) ≡ said None
  in-empty [] f last h k = refl
  in-empty (y ∷ ys) f last h zero = empty f y h.0 h.1
  in-empty (y ∷ ys) f last h (suc k) = in-empty ys h.0 last h.2 k

  in-more : (xs ys : List X) (f last : F) → FoldsTo step f ys last → (k : ℕ) → said (slice_get (xs ++ ys) k) ≡ said (slice_get xs k)
  in-more [] ys f last h k = in-empty ys f last h k
  in-more (x ∷ xs) ys f last h zero = refl
  in-more (x ∷ xs) ys f last h (suc k) = in-more xs ys f last h k

  pub as-before : (xs after : List X) (c : ℕ) (f : F) → AppendsResults step (take c xs) after f → length xs ≤ c → (k : ℕ) → said (slice_get after k) ≡ said (slice_get xs k)
  as-before xs after c f h l k = rw (h.2, take_all c xs l) (in-more xs h.0 f h.1 h.3 k)
