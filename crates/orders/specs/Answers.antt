-- What the readers' answers stand for. Assumes nothing.
use Rattle.std.specs.Prelude.{ℕ, ◌<◌, ◌≤◌, List, drop, Ok, Err, Result}
use Rattle.orders.specs.declared.Order.{Order as Slots}
use Rattle.orders.specs.declared.Record.{Record}
use Rattle.orders.specs.declared.Message.{Message}
use Rattle.orders.specs.declared.Refusal.{Refusal}
use Rattle.orders.specs.declared.read.ReadError.{ReadError}
use Rattle.orders.specs.declared.read.ReadError.TheVariants.{Cut, Refused}
use Rattle.orders.specs.declared.input.Input.{Input}
use Rattle.orders.specs.declared.records.Records.{Records}
use Rattle.orders.specs.Order.{Rec, Msg}
use Rattle.orders.specs.Values.{rec_of, msg_of}
use Rattle.orders.specs.Refusals.{number_of}
use Rattle.orders.specs.File.{records}
use Rattle.orders.specs.Parse.{Got, got, cut, bad, Taken, taken, refused}

-- the bytes that are not yet read
abbrev pub left : Input → List ℕ
left i = i.rest.now

-- an error of a reader
abbrev pub failed : {A : Type 0} → ReadError → Got A
failed Cut = cut
failed (Refused f) = bad (number_of f)

-- a reader's answer by what its value stands for, with the bytes left after it
abbrev pub read : {A B : Type 0} → (A → B) → Result A ReadError → Input → Got B
read f (Ok a) i = got (f a) (left i)
read f (Err e) i = failed e

-- what a number, a flag or a name stands for
abbrev pub same : {A : Type 0} → A → A
same a = a

abbrev pub recorded : Record × Slots → Rec
recorded p = rec_of p.0 p.1

abbrev pub posted : Message × Slots → Msg
posted p = msg_of p.0 p.1

-- a record read from bs; the bytes behind it are those from the next place on
abbrev pub record_read : List ℕ → Result (Record × Slots × ℕ) ReadError → Got Rec
record_read bs (Ok p) = got (rec_of p.0 p.1) (drop p.2 bs)
record_read bs (Err e) = failed e

-- the next place is further on than `at`, and not past the end
abbrev pub RecordOn : ℕ → ℕ → Result (Record × Slots × ℕ) ReadError → Type 0
RecordOn at len (Ok p) = (at < p.2) × (p.2 ≤ len)
RecordOn at len (Err e) = Unit {0}

-- the same of a record whose entries stand in the order s that was lent
abbrev pub record_filled : List ℕ → Slots → Result (Record × ℕ) ReadError → Got Rec
record_filled bs s (Ok p) = got (rec_of p.0 s) (drop p.1 bs)
record_filled bs s (Err e) = failed e

abbrev pub FilledOn : ℕ → ℕ → Result (Record × ℕ) ReadError → Type 0
FilledOn at len (Ok p) = (at < p.1) × (p.1 ≤ len)
FilledOn at len (Err e) = Unit {0}

abbrev pub message_read : Result (Message × Slots) Refusal → Taken
message_read (Ok p) = taken (posted p)
message_read (Err f) = refused (number_of f)

-- the records that are still to come
abbrev pub to_come : Records → List Rec
to_come it = records it.houses it.rest.now
