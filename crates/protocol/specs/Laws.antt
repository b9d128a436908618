-- What has to hold of a model of orders for the network to be right.
-- Assumes nothing.
use Rattle.std.specs.Prelude.{◌≡◌, ℕ, T}
use mathlib.Core.List.{List, [], ◌∷◌, ◌++◌, Memᴰ}
use Rattle.protocol.specs.declared.Name.{Name}
use Rattle.protocol.specs.Model.{Model, admits}
use Rattle.protocol.specs.House.{without}

-- Fit h us m: the orders us may be held back together in house h, whose shelves are m: whichever of them are done, in whatever order, the others still find what they want
pub record Laws (M : Model) : Type 1 where
  pub Fit : ℕ → List M.Order → M.Shelves → Type 0
  pub none : (h : ℕ) → Fit h [] M.empty
  pub join : (h : ℕ) (t : M.Order) (us : List M.Order) (m : M.Shelves) → Fit h us m → T (admits M h t us m) → Fit h (us ++ (t ∷ [])) m
  pub leave : (h : ℕ) (i : Name) (us : List M.Order) (m : M.Shelves) → Fit h us m → Fit h (without M i us) m
  pub finish : (h : ℕ) (u : M.Order) (us : List M.Order) (m : M.Shelves) → Fit h us m → Memᴰ u us → Fit h (without M (M.name u) us) (M.do_here h u m)
  pub sees : (h : ℕ) (u : M.Order) (us : List M.Order) (m : M.Shelves) → Fit h us m → Memᴰ u us → T (M.sees_here h u m)
  pub swap : (h : ℕ) (u v : M.Order) (us : List M.Order) (m : M.Shelves) → Fit h us m → Memᴰ u us → Memᴰ v us → (M.name u ≡ M.name v → ⊥) →
      M.do_here h u (M.do_here h v m) ≡ M.do_here h v (M.do_here h u m)
  pub party-houses : (h : ℕ) (t : M.Order) → T (M.party h t) → Memᴰ h (M.houses t)
  pub same_self : (t : M.Order) → T (M.same t t)
  pub same-one : (t u : M.Order) → T (M.same t u) → t ≡ u
  pub away : (h : ℕ) (t : M.Order) (m : M.Shelves) → (T (M.party h t) → ⊥) → M.do_here h t m ≡ m
