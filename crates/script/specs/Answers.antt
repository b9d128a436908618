-- What the readers' answers stand for. Assumes nothing.
use Rattle.std.specs.Prelude.{ℕ, List, take, Option}
use Rattle.std.specs.Borrow.{Bor}
use Rattle.protocol.specs.declared.Name.{Name}
use Rattle.orders.specs.declared.Entry.{Entry}
use Rattle.orders.specs.declared.Order.{Order as Slots}
use Rattle.orders.specs.Order.{Order}
use Rattle.script.specs.declared.NameWords.{NameWords}
use Rattle.script.specs.declared.words.Words.{Words}
use Rattle.script.specs.Words.{words}
use Rattle.script.specs.Parse.{Got, given}

-- the words that are not yet taken
abbrev pub left : Words → List (List ℕ)
left w = words w.rest.now

-- a reader's answer, with the words left after it
abbrev pub read : {A B : Type 0} → (A → B) → Option A → Words → Got B
read f r w = given f r (left w)

abbrev pub bytes_of : Bor (List ℕ) → List ℕ
bytes_of r = r.now

-- the name that is written, with any number for its home
abbrev pub named : NameWords → Name
named m = record { home = m.home; start = m.start; number = m.number }

-- so many entries from the front on
abbrev pub filled : List Entry → ℕ → List Entry
filled es n = take n es

-- the order that is written: what stands behind the counts of the arrays is no part of it
abbrev pub order_of : NameWords → Slots → Order
order_of m o = record { name = named m; reads = take o.read_count o.reads; writes = take o.write_count o.writes }

abbrev pub ordered : NameWords × Slots → Order
ordered p = order_of p.0 p.1
