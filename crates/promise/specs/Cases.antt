-- The worked cases A to G: rows of one table, played one after the other from empty ledgers on, among two houses.
-- Assumes nothing.
use Rattle.std.specs.Prelude.{◌≡◌, true, false, List, [], ◌∷◌, ◌++◌, ℕ}
use Rattle.protocol.specs.declared.Name.{Name}
use Rattle.protocol.specs.Net.{start}
use Rattle.protocol.specs.Plan.{do_hold, do_rule, do_answer, do_learn}
use Rattle.protocol.specs.Run.{deliver}
use Rattle.orders.specs.Order.{Order, entry_model}
use Rattle.promise.specs.Case.{Row, pass, name, entry, order, refused_by, submits, holds, agrees, rules, gives_up, answers_no, learns, stops}

abbrev a : Order
a = order (name 0 1 0) [] (entry 5 3 ∷ entry 65541 2 ∷ [])

-- takes one from each of two shelves that were seen at 3 and 2
abbrev takes_one : Name → Order
takes_one d = order d (entry 5 3 ∷ entry 65541 2 ∷ []) (entry 5 2 ∷ entry 65541 1 ∷ [])

abbrev b₁ : Order
b₁ = takes_one (name 0 1 1)

abbrev b₂ : Order
b₂ = takes_one (name 1 1 0)

abbrev c : Order
c = takes_one (name 0 1 2)

abbrev late : Order
late = order (name 1 1 1) (entry 5 3 ∷ []) []

abbrev d : Order
d = order (name 0 1 3) [] (entry 65542 9 ∷ [])

abbrev e : Order
e = order (name 0 1 4) [] (entry 65543 1 ∷ [])

abbrev f : Order
f = order (name 0 2 1) [] (entry 65544 7 ∷ [])

abbrev g : Order
g = order (name 0 2 0) [] []

-- neither house holds anything back
abbrev free : List (ℕ × List Name)
free = (0, []) ∷ (1, []) ∷ []

-- A. Both houses hold, the home rules, both learn.
abbrev row_a : Row
row_a = record {
  plays = (submits a ∷ []) ++ agrees 0 a ++ agrees 1 a ++ (rules a ∷ learns 0 true a ∷ learns 1 true a ∷ []);
  shelves = entry 5 3 ∷ entry 65541 2 ∷ [];
  held = free;
  starts = (0, 1) ∷ (1, 1) ∷ [];
  rulings = a.name ∷ [];
}

-- B. Each house holds one of two orders that clash and turns the other away by 9; both homes give up, both houses drop.
abbrev row_b : Row
row_b = record {
  plays =
      submits b₁ ∷ submits b₂ ∷ holds 0 b₁ ∷ holds 1 b₂
      ∷ refused_by 9 (deliver 0 (do_hold b₂)) ∷ refused_by 9 (deliver 1 (do_hold b₁)) ∷ refused_by 13 (deliver 0 (do_rule b₁.name))
      ∷ gives_up b₁ ∷ gives_up b₂ ∷ learns 0 false b₁ ∷ learns 1 false b₂ ∷ refused_by 8 (deliver 0 (do_hold b₁)) ∷ [];
  shelves = entry 5 3 ∷ entry 65541 2 ∷ [];
  held = free;
  starts = [];
  rulings = a.name ∷ [];
}

-- C. The first of B again: held by both, ruled, learnt. Then one that saw what is no longer so is turned away by 10.
abbrev row_c : Row
row_c = record {
  plays = (submits c ∷ []) ++ agrees 0 c ++ agrees 1 c ++ (rules c ∷ learns 0 true c ∷ learns 1 true c ∷ submits late ∷ refused_by 10 (deliver 0 (do_hold late)) ∷ []);
  shelves = entry 5 2 ∷ entry 65541 1 ∷ [];
  held = free;
  starts = [];
  rulings = a.name ∷ c.name ∷ [];
}

-- D. A house stops before it learns, comes up holding the order, start 2, and is told yes.
abbrev rows_d : List Row
rows_d =
    record {
      plays = (submits d ∷ []) ++ agrees 1 d ++ (rules d ∷ stops 1 0 ∷ []);
      shelves = entry 65542 0 ∷ [];
      held = (1, d.name ∷ []) ∷ [];
      starts = (1, 2) ∷ [];
      rulings = a.name ∷ c.name ∷ d.name ∷ [];
    }
    ∷ record { plays = learns 1 true d ∷ []; shelves = entry 65542 9 ∷ []; held = free; starts = []; rulings = a.name ∷ c.name ∷ d.name ∷ [] }
    ∷ []

-- E. The home stops while it asks, comes up with start 2 and, asked, tells no. While it asks it has nothing to say.
abbrev row_e : Row
row_e = record {
  plays = submits e ∷ holds 1 e ∷ refused_by 14 (deliver 0 (do_answer e.name)) ∷ stops 0 0 ∷ answers_no e ∷ learns 1 false e ∷ [];
  shelves = entry 65543 0 ∷ [];
  held = free;
  starts = (0, 2) ∷ [];
  rulings = a.name ∷ c.name ∷ d.name ∷ [];
}

-- G. An order without entries is ruled at once, and no shelf changes.
abbrev row_g : Row
row_g = record {
  plays = submits g ∷ rules g ∷ [];
  shelves = entry 5 2 ∷ entry 65541 1 ∷ entry 65542 9 ∷ entry 65543 0 ∷ [];
  held = free;
  starts = [];
  rulings = a.name ∷ c.name ∷ d.name ∷ g.name ∷ [];
}

-- F. A done record is lost in a stop: the order is held back again, the same yes is learnt again, and the shelf has changed once.
abbrev rows_f : List Row
rows_f =
    let rulings = a.name ∷ c.name ∷ d.name ∷ g.name ∷ f.name ∷ [] in
    record { plays = (submits f ∷ []) ++ agrees 1 f ++ (rules f ∷ learns 1 true f ∷ []); shelves = entry 65544 7 ∷ []; held = free; starts = []; rulings = rulings }
    ∷ record { plays = stops 1 9 ∷ []; shelves = entry 65544 0 ∷ []; held = (1, f.name ∷ []) ∷ []; starts = (1, 3) ∷ []; rulings = rulings }
    ∷ record { plays = learns 1 true f ∷ refused_by 12 (deliver 1 (do_learn f.name true)) ∷ []; shelves = entry 65544 7 ∷ []; held = free; starts = []; rulings = rulings }
    ∷ []

abbrev pub rows : List Row
rows = (row_a ∷ row_b ∷ row_c ∷ []) ++ rows_d ++ (row_e ∷ row_g ∷ []) ++ rows_f

abbrev pub AllRows : Type 0
AllRows = pass 2 rows (start entry_model) ≡ true
