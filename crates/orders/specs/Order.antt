-- Orders that read and write entries: when two clash, what they find and leave on the shelves, the limits of their numbers;
-- and the model of them for which the network is proved. Assumes nothing.
use Rattle.std.specs.Prelude.{ℕ, ◌+◌, ◌*◌, ◌/◌, ◌%◌, Bool, true, cond, not, ◌&&◌, ◌||◌, List, [], ◌∷◌, ◌++◌, length, replicate, fold, ◌==◌, nat_eq, nat_le, nat_lt, slice_index, slice_set}
use Rattle.std.specs.List.{list_any, list_all}
use Rattle.std.specs.Cmp.Lexicographic.{pointwise}
use Rattle.protocol.specs.declared.Name.{Name}
use Rattle.protocol.specs.Model.{Model, same_name, houses_ok, name_ok}
use Rattle.protocol.specs.House as house
use Rattle.protocol.specs.Net as net
use Rattle.orders.specs.declared.Entry.{Entry}

-- an order as the lists of its entries; what stands behind the counts of the code's arrays is no part of it
pub record Order : Type 0 where
  pub name : Name
  pub reads : List Entry
  pub writes : List Entry

-- the house and the item of a shelf's key
abbrev pub house_of : ℕ → ℕ
house_of k = k / 65536

abbrev pub item_of : ℕ → ℕ
item_of k = k % 65536

-- some element passes the test
abbrev pub any_by : {X : Type 0} → (X → Bool) → List X → Bool
any_by = list_any

-- each element passes the test
abbrev pub all_by : {X : Type 0} → (X → Bool) → List X → Bool
all_by = list_all

-- an entry has this key
abbrev pub touches : ℕ → List Entry → Bool
touches k es = any_by (λ (e : Entry). nat_eq e.key k) es

-- two lists of entries have a key in common
abbrev pub meets : List Entry → List Entry → Bool
meets es fs = any_by (λ (e : Entry). touches e.key fs) es

-- one of two orders writes a key that the other reads or writes
abbrev pub clash : Order → Order → Bool
clash t u = meets t.writes u.reads || meets t.writes u.writes || meets t.reads u.writes

-- the order clashes with one of these
abbrev pub clashes : Order → List Order → Bool
clashes t us = any_by (clash t) us

-- an entry has a key of house h
abbrev pub in_house : ℕ → List Entry → Bool
in_house h es = any_by (λ (e : Entry). nat_eq (house_of e.key) h) es

-- house h is one of the order's
abbrev pub party : ℕ → Order → Bool
party h t = in_house h t.reads || in_house h t.writes

-- if the entry is of house h, its shelf has what the entry says; shelves are a list of amounts, by item
abbrev pub as_said : ℕ → List ℕ → Entry → Bool
as_said h shelves e = not (house_of e.key == h) || slice_index shelves (item_of e.key) == e.amount

-- each of the entries finds what it says on the shelves of house h
abbrev pub seen_here : ℕ → List Entry → List ℕ → Bool
seen_here h es shelves = all_by (as_said h shelves) es

-- the shelves of house h after the entry's write
abbrev pub put : ℕ → Entry → List ℕ → List ℕ
put h e shelves = cond (house_of e.key == h) (slice_set shelves (item_of e.key) e.amount) shelves

-- after the writes of the entries, in their order
abbrev pub ours : ℕ → List Entry → List ℕ → List ℕ
ours h es shelves = fold (λ s e. put h e s) shelves es

-- the house of each entry
unfoldable pub houses_of : List Entry → List ℕ
houses_of [] = []
houses_of (e ∷ es) = house_of e.key ∷ houses_of es

-- how many bytes an order has: a name, two counts, entries
abbrev pub order_size : Order → ℕ
order_size t = 11 + 8 * (length t.reads + length t.writes)

-- one and the same entry, list of entries, order
abbrev pub same_entry : Entry → Entry → Bool
same_entry e f = e.key == f.key && e.amount == f.amount

unfoldable pub same_entries : List Entry → List Entry → Bool
same_entries = pointwise same_entry

abbrev pub same_order : Order → Order → Bool
same_order t u = same_name t.name u.name && same_entries t.reads u.reads && same_entries t.writes u.writes

-- the limits where there are n houses: a key's house below n, its item at most 4,095; an amount of 32 bits
abbrev pub entry_ok : ℕ → Entry → Bool
entry_ok n e = nat_lt (e.key / 65536) n && nat_le (e.key % 65536) 4095 && nat_le e.amount 4294967295

unfoldable pub entries_ok : ℕ → List Entry → Bool
entries_ok n [] = true
entries_ok n (e ∷ es) = entry_ok n e && entries_ok n es

-- at most 16 entries that are read and 16 that are written
unfoldable pub lists_ok : ℕ → List Entry → List Entry → Bool
lists_ok n rs ws = nat_le (length rs) 16 && nat_le (length ws) 16 && entries_ok n rs && entries_ok n ws

-- all numbers of an order are within the limits
abbrev pub order_ok : ℕ → Order → Bool
order_ok n t = name_ok n t.name && lists_ok n t.reads t.writes

-- these orders as what the network is about
abbrev pub entry_model : Model
entry_model = record {
  Order = Order;
  Shelves = List ℕ;
  name = λ t. t.name;
  party = party;
  empty = replicate 4096 0;
  do_here = λ h t shelves. ours h t.writes shelves;
  sees_here = λ h t shelves. seen_here h t.reads shelves;
  clear = λ h t us shelves. not (clashes t us);
  size = order_size;
  houses = λ t. houses_of t.reads ++ houses_of t.writes;
  same = same_order;
  valid = order_ok;
}

-- records of a file, and messages, with these orders
abbrev pub Rec : Type 0
Rec = house.Rec entry_model

abbrev pub Msg : Type 0
Msg = net.Msg entry_model

-- there are 1 to 16 houses, and all numbers of a record, or of a message, are within the limits
abbrev pub rec_ok : ℕ → Rec → Bool
rec_ok n house.Began = houses_ok n
rec_ok n (house.Held t) = houses_ok n && order_ok n t
rec_ok n (house.Done d) = houses_ok n && name_ok n d
rec_ok n (house.Dropped d) = houses_ok n && name_ok n d
rec_ok n (house.Ruled t) = houses_ok n && order_ok n t

abbrev pub msg_ok : ℕ → Msg → Bool
msg_ok n (net.Hold t) = houses_ok n && order_ok n t
msg_ok n (net.Yes h d) = houses_ok n && nat_lt h n && name_ok n d
msg_ok n (net.Told d b) = houses_ok n && name_ok n d
