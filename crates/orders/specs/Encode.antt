-- The bytes of names, orders, records and messages, the high byte of a number first. Assumes nothing.
use Rattle.std.specs.Prelude.{ℕ, ◌/◌, ◌%◌, cond, List, [], ◌∷◌, ◌++◌, length}
use Rattle.protocol.specs.declared.Name.{Name}
use Rattle.protocol.specs.House.{Began, Held, Done, Dropped, Ruled}
use Rattle.protocol.specs.Net.{Hold, Yes, Told}
use Rattle.orders.specs.declared.Entry.{Entry}
use Rattle.orders.specs.Order.{Order, Rec, Msg}

-- four bytes
abbrev pub number_bytes : ℕ → List ℕ
number_bytes v = (v / 16777216 % 256) ∷ (v / 65536 % 256) ∷ (v / 256 % 256) ∷ (v % 256) ∷ []

-- home, start, number: 9 bytes
unfoldable pub name_bytes : Name → List ℕ
name_bytes d = d.home ∷ (number_bytes d.start ++ number_bytes d.number)

-- key, amount: 8 bytes
unfoldable pub entry_bytes : Entry → List ℕ
entry_bytes e = number_bytes e.key ++ number_bytes e.amount

unfoldable pub entries_bytes : List Entry → List ℕ
entries_bytes [] = []
entries_bytes (e ∷ es) = entry_bytes e ++ entries_bytes es

-- name, count of reads, count of writes, entries
unfoldable pub order_bytes : Order → List ℕ
order_bytes o = name_bytes o.name ++ (length o.reads ∷ length o.writes ∷ (entries_bytes o.reads ++ entries_bytes o.writes))

-- a kind, and what it has
abbrev pub rec_bytes : Rec → List ℕ
rec_bytes Began = 1 ∷ []
rec_bytes (Held o) = 2 ∷ order_bytes o
rec_bytes (Done d) = 3 ∷ name_bytes d
rec_bytes (Dropped d) = 4 ∷ name_bytes d
rec_bytes (Ruled o) = 5 ∷ order_bytes o

abbrev pub msg_bytes : Msg → List ℕ
msg_bytes (Hold o) = 6 ∷ order_bytes o
msg_bytes (Yes h d) = 7 ∷ h ∷ name_bytes d
msg_bytes (Told d b) = 8 ∷ cond b 1 0 ∷ name_bytes d
