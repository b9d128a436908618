-- The promise of the network, for any model of orders that keeps the laws.
-- Assumes nothing.
use Rattle.std.specs.Prelude.{◌≡◌, cond, List, [], ◌∷◌, ℕ}
use Rattle.protocol.specs.Model.{Model, played_all, SerialAll}
use Rattle.protocol.specs.Laws.{Laws}
use Rattle.protocol.specs.House.{holding, stock, is_in}
use Rattle.protocol.specs.Net.{Net, Reach}

-- the orders of us that are in ds are done, in the order of us
module _ (M : Model) where
  unfoldable pub settle : ℕ → List M.Order → List M.Order → M.Shelves → M.Shelves
  settle h ds [] m = m
  settle h ds (u ∷ us) m = settle h ds us (cond (is_in M (M.name u) ds) (M.do_here h u m) m)

-- the rulings in their order are serial, and a house's shelves, once what it holds back and is ruled is done there, are what the rulings left
pub record Whole (M : Model) (n : ℕ) (s : Net M) : Type 0 where
  pub serial : SerialAll M (λ i. M.empty) s.done
  pub shelves : (i : ℕ) → settle M i s.done (holding M [] (s.house i).file) (stock M i (s.house i).file) ≡ played_all M (λ j. M.empty) s.done i

abbrev pub Sound : Type 1
Sound = (M : Model) → Laws M → (n : ℕ) (s : Net M) → Reach M n s → Whole M n s
