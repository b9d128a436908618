-- The sum of all numbers of the records of a file, modulo 2^64. Assumes nothing.
use Rattle.std.specs.Prelude.{◌≡◌, ℕ, ◌+◌, ◌%◌, ◌^◌, List, fold}
use Rattle.protocol.specs.declared.Name.{Name}
use Rattle.protocol.specs.House.{Began, Held, Done, Dropped, Ruled}
use Rattle.orders.specs.declared.Entry.{Entry}
use Rattle.orders.specs.Order.{Order, Rec}
use Rattle.orders.specs.File.{Reached, Ended}

abbrev pub plus : ℕ → ℕ → ℕ
plus sum v = (sum + v) % 2 ^ 64

abbrev pub plus_name : ℕ → Name → ℕ
plus_name sum d = plus (plus (plus sum d.home) d.start) d.number

abbrev pub plus_entry : ℕ → Entry → ℕ
plus_entry sum e = plus (plus sum e.key) e.amount

abbrev pub plus_entries : ℕ → List Entry → ℕ
plus_entries sum es = fold plus_entry sum es

abbrev pub plus_order : ℕ → Order → ℕ
plus_order sum t = plus_entries (plus_entries (plus_name sum t.name) t.reads) t.writes

-- a record counts its kind, and all its numbers
abbrev pub plus_rec : ℕ → Rec → ℕ
plus_rec sum Began = plus sum 1
plus_rec sum (Held t) = plus_order (plus sum 2) t
plus_rec sum (Done d) = plus_name (plus sum 3) d
plus_rec sum (Dropped d) = plus_name (plus sum 4) d
plus_rec sum (Ruled t) = plus_order (plus sum 5) t

-- the sum over the records up to where no further one is read
abbrev pub Sums : ℕ → List ℕ → ℕ → Type 0
Sums n bs sum = (rs : List Rec) × (xs : List ℕ) × Reached n bs rs xs × Ended n xs × (sum ≡ fold plus_rec 0 rs)
