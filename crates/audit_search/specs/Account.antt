-- What an audit asks of one house, by the records of its file. Assumes nothing.
use Rattle.std.specs.Prelude.{ℕ, Bool, false, not, ◌&&◌, ◌||◌, List, [], ◌∷◌}
use Rattle.protocol.specs.declared.Name.{Name}
use Rattle.protocol.specs.Model.{same_name}
use Rattle.protocol.specs.House.{Began, Held, Done, Dropped, Ruled, holding, ruled}
use Rattle.protocol.specs.Plan.{is_held_back}
use Rattle.orders.specs.Order.{Order, Rec, entry_model, party}

-- the record is a done of that name
abbrev pub is_done : Name → Rec → Bool
is_done d Began = false
is_done d (Held t) = false
is_done d (Done c) = same_name d c
is_done d (Dropped c) = false
is_done d (Ruled t) = false

-- a record of the file is
unfoldable pub was_done : Name → List Rec → Bool
was_done d [] = false
was_done d (r ∷ rs) = is_done d r || was_done d rs

-- ruled: the names that the house ruled; held: the orders that it holds back; done: the names of those that it did
pub record Account : Type 0 where
  pub ruled : Name → Bool
  pub held : List Order
  pub done : Name → Bool

-- what the file says
abbrev pub account_of : List Rec → Account
account_of f = record { ruled = λ d. ruled entry_model d f; held = holding entry_model [] f; done = λ d. was_done d f }

-- a house that isn't there has no records
abbrev pub no_account : Account
no_account = account_of []

-- the house holds the order back, the same in all its entries, or did one of its name: a done has no more than a name
abbrev pub keeps : Order → Account → Bool
keeps t a = a.done t.name || is_held_back entry_model t a.held

-- house j is one of the order's, and neither holds it back nor did it
abbrev pub lacks : Order → ℕ → Account → Bool
lacks t j a = party j t && not (keeps t a)
