-- What the code's memory of a home stands for. Assumes nothing.
use Rattle.std.specs.Prelude.{ℕ, Bool, false, ◌&&◌, List, map, vec_items, ◌==◌, slice_index_or}
use Rattle.protocol.specs.declared.Name.{Name}
use Rattle.protocol.specs.Model.{same_name}
use Rattle.protocol.specs.Net.{Asking, Memory}
use Rattle.orders.specs.declared.Entry.{Entry}
use Rattle.orders.specs.Order.{entry_model, house_of}
use Rattle.entries.specs.Named.{named_of}
use Rattle.home.specs.declared.asked.Asked.{Asked}
use Rattle.home.specs.declared.memory.Home.{Home}

-- an order asked about: the houses whose mark is set have said yes
abbrev pub asking_of : Asked → Asking entry_model
asking_of a = record { order = named_of a.order; yes = λ j. slice_index_or a.yes j false }

-- the order asked about has that name
abbrev pub asked_of : Name → Asked → Bool
asked_of d a = same_name d a.order.name

-- the marks of numbers as names: those of this home and this start
abbrev pub tried_of : ℕ → ℕ → List Bool → Name → Bool
tried_of h s marks d = (d.home == h && d.start == s) && slice_index_or marks d.number false

-- the memory: the orders asked about, and the names tried
abbrev pub memory_of : Home → Memory entry_model
memory_of h = record { asking = map asking_of (vec_items h.asking); tried = tried_of h.house h.start (vec_items h.tried) }

-- the entry's house is marked
abbrev pub marked : List Bool → Entry → Bool
marked marks e = slice_index_or marks (house_of e.key) false
