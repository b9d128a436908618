-- One house: what its file says, whatever orders are.
-- Assumes nothing.
use Rattle.std.specs.Prelude.{Bool, false, cond, ◌&&◌, ◌||◌, not, List, [], ◌∷◌, ◌++◌, ℕ, ◌+◌}
use Rattle.protocol.specs.declared.Name.{Name}
use Rattle.protocol.specs.Model.{Model, same_name, admits}

-- Began: the house started; Held: it holds an order's things back; Done, Dropped: that is over; Ruled: as the order's home it decided that it is done
pub data Rec (M : Model) : Type 0 where
  Began : Rec M
  Held : M.Order → Rec M
  Done : Name → Rec M
  Dropped : Name → Rec M
  Ruled : M.Order → Rec M

module _ (M : Model) where
  abbrev pub count_began : Rec M → ℕ → ℕ
  count_began Began n = n + 1
  count_began (Held t) n = n
  count_began (Done i) n = n
  count_began (Dropped i) n = n
  count_began (Ruled t) n = n

  -- which start of the house this is
  unfoldable pub starts : List (Rec M) → ℕ
  starts [] = 0
  starts (r ∷ rs) = count_began r (starts rs)

  unfoldable pub without : Name → List M.Order → List M.Order
  without i [] = []
  without i (t ∷ ts) = cond (same_name i (M.name t)) (without i ts) (t ∷ without i ts)

  abbrev pub hold_next : Rec M → List M.Order → List M.Order
  hold_next Began os = os
  hold_next (Held t) os = os ++ (t ∷ [])
  hold_next (Done i) os = without i os
  hold_next (Dropped i) os = without i os
  hold_next (Ruled t) os = os

  -- the orders held back, after the records, the latest record last
  unfoldable pub holding : List M.Order → List (Rec M) → List M.Order
  holding os [] = os
  holding os (r ∷ rs) = holding (hold_next r os) rs

  unfoldable pub done_of : ℕ → Name → List M.Order → M.Shelves → M.Shelves
  done_of h i [] m = m
  done_of h i (t ∷ ts) m = done_of h i ts (cond (same_name i (M.name t)) (M.do_here h t m) m)

  abbrev pub stock_next : ℕ → Rec M → List M.Order → M.Shelves → M.Shelves
  stock_next h Began os m = m
  stock_next h (Held t) os m = m
  stock_next h (Done i) os m = done_of h i os m
  stock_next h (Dropped i) os m = m
  stock_next h (Ruled t) os m = m

  -- the stock of house h after the records
  unfoldable pub stock_from : ℕ → List M.Order → M.Shelves → List (Rec M) → M.Shelves
  stock_from h os m [] = m
  stock_from h os m (r ∷ rs) = stock_from h (hold_next r os) (stock_next h r os m) rs

  abbrev pub stock : ℕ → List (Rec M) → M.Shelves
  stock h f = stock_from h [] M.empty f

  abbrev pub is_held : Name → Rec M → Bool
  is_held i Began = false
  is_held i (Held t) = same_name i (M.name t)
  is_held i (Done j) = false
  is_held i (Dropped j) = false
  is_held i (Ruled t) = false

  unfoldable pub ever_held : Name → List (Rec M) → Bool
  ever_held i [] = false
  ever_held i (r ∷ rs) = is_held i r || ever_held i rs

  abbrev pub is_ruled : Name → Rec M → Bool
  is_ruled i Began = false
  is_ruled i (Held t) = false
  is_ruled i (Done j) = false
  is_ruled i (Dropped j) = false
  is_ruled i (Ruled t) = same_name i (M.name t)

  unfoldable pub ruled : Name → List (Rec M) → Bool
  ruled i [] = false
  ruled i (r ∷ rs) = is_ruled i r || ruled i rs

  unfoldable pub is_in : Name → List M.Order → Bool
  is_in i [] = false
  is_in i (t ∷ ts) = same_name i (M.name t) || is_in i ts

  -- may house h hold the order back now
  abbrev pub may_hold : ℕ → M.Order → List (Rec M) → Bool
  may_hold h t f = M.party h t && not (ever_held (M.name t) f) && admits M h t (holding [] f) (stock h f)
