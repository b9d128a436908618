-- How many bytes each encoding has. Assumes nothing.
use Rattle.std.proofs.Common.{◌≡◌, ◌+◌, ◌*◌, ◌<◌, List, [], ◌∷◌, ◌++◌, length, refl, ◌∙◌, arith, length-append, length-take-le}
use Rattle.protocol.specs.declared.Name.{Name}
use Rattle.protocol.specs.House.{Began, Held, Done, Dropped, Ruled}
use Rattle.orders.specs.declared.Entry.{Entry}
use Rattle.orders.specs.declared.Order.{Order as Slots}
use Rattle.orders.specs.Order.{Order, Rec}
use Rattle.orders.specs.Values.{reads_of, writes_of, order_of}
use Rattle.orders.specs.Encode.{name_bytes, entry_bytes, entries_bytes, order_bytes, rec_bytes}
use Rattle.orders.specs.Laws.{Sized}

pub length_name : (d : Name) → length (name_bytes d) ≡ 9
unfolding name_bytes
length_name d = refl

pub length-entry : (e : Entry) → length (entry_bytes e) ≡ 8
unfolding entry_bytes
length-entry e = refl

pub length-entries : (es : List Entry) → length (entries_bytes es) ≡ 8 * length es
unfolding entries_bytes
length-entries [] = refl
length-entries (e ∷ es) = length-append (entry_bytes e) (entries_bytes es) ∙ omega (arith, length-entry e, length-entries es)

pub length-order : (o : Order) → length (order_bytes o) ≡ 11 + 8 * (length o.reads + length o.writes)
unfolding order_bytes
length-order o =
    let es = entries_bytes o.reads in
    let fs = entries_bytes o.writes in
    length-append (name_bytes o.name) (length o.reads ∷ length o.writes ∷ (es ++ fs)) ∙ omega (arith, length_name o.name, length-append es fs, length-entries o.reads, length-entries o.writes)

pub sized : Sized
sized Began = refl
sized (Held o) = omega (arith, length-order o)
sized (Done d) = omega (arith, length_name d)
sized (Dropped d) = omega (arith, length_name d)
sized (Ruled o) = omega (arith, length-order o)

pub some_byte : (r : Rec) → 0 < length (rec_bytes r)
some_byte Began = omega arith
some_byte (Held o) = omega arith
some_byte (Done d) = omega arith
some_byte (Dropped d) = omega arith
some_byte (Ruled o) = omega arith

-- an order by value

pub length-reads : (s : Slots) → length (reads_of s) ≡ s.read_count
length-reads s = length-take-le s.read_count s.reads (omega (arith, s.few.0, s.few.2))

pub length-writes : (s : Slots) → length (writes_of s) ≡ s.write_count
length-writes s = length-take-le s.write_count s.writes (omega (arith, s.few.1, s.few.3))

pub length_slots : (d : Name) (s : Slots) → length (order_bytes (order_of d s)) ≡ 11 + 8 * (s.read_count + s.write_count)
length_slots d s = length-order (order_of d s) ∙ omega (arith, length-reads s, length-writes s)
