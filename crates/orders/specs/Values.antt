-- What the code's structs stand for: an order by value is its name and the entries in front of its counts. Assumes nothing.
use Rattle.std.specs.Prelude.{List, take}
use Rattle.protocol.specs.declared.Name.{Name}
use Rattle.protocol.specs.House.{Began, Held, Done, Dropped, Ruled}
use Rattle.protocol.specs.Net.{Hold, Yes, Told}
use Rattle.orders.specs.declared.Entry.{Entry}
use Rattle.orders.specs.declared.Order.{Order as Slots}
use Rattle.orders.specs.declared.Record.{Record}
use Rattle.orders.specs.declared.Record.TheVariants as code
use Rattle.orders.specs.declared.Message.{Message}
use Rattle.orders.specs.declared.Message.TheVariants as post
use Rattle.orders.specs.Order.{Order, Rec, Msg}

-- the entries that the arrays hold: those below the count
abbrev pub reads_of : Slots → List Entry
reads_of s = take s.read_count s.reads

abbrev pub writes_of : Slots → List Entry
writes_of s = take s.write_count s.writes

-- the order of that name with these entries
abbrev pub order_of : Name → Slots → Order
order_of d s = record { name = d; reads = reads_of s; writes = writes_of s }

-- what a record of the code says, with the entries that stand beside it
abbrev pub rec_of : Record → Slots → Rec
rec_of code.Began s = Began
rec_of (code.Held d) s = Held (order_of d s)
rec_of (code.Done d) s = Done d
rec_of (code.Dropped d) s = Dropped d
rec_of (code.Ruled d) s = Ruled (order_of d s)

-- the same of a message
abbrev pub msg_of : Message → Slots → Msg
msg_of (post.Hold d) s = Hold (order_of d s)
msg_of (post.Yes h d) s = Yes h d
msg_of (post.Told b d) s = Told d b
