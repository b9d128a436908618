-- The orders of the hold messages, in the order of sending. Assumes nothing.
use Rattle.std.specs.Prelude.{List, map, vec_items, Option}
use Rattle.std.specs.List.{find}
use Rattle.protocol.specs.declared.Name.{Name}
use Rattle.protocol.specs.Model.{same_name}
use Rattle.orders.specs.Order.{Order}
use Rattle.entries.specs.Named.{named_of}
use Rattle.post.specs.declared.holds.Holds.{Holds}

abbrev pub orders_of : Holds → List Order
orders_of h = map named_of (vec_items h.orders)

-- the first order of that name
unfoldable pub hold_named : Name → List Order → Option Order
hold_named n ts = find (λ (t : Order). same_name n t.name) ts
