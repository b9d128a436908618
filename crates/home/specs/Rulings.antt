-- Whether an order may be ruled. Assumes nothing.
use Rattle.std.specs.Prelude.{ℕ, Bool, true, false, cond, List, [], ◌∷◌, Some, None, Option as Answer, Ok, Err, Result}
use Rattle.std.proofs.Math.Option.{Option, none, some}
use Rattle.protocol.specs.declared.Name.{Name}
use Rattle.protocol.specs.House.{Ruled}
use Rattle.protocol.specs.Net.{Asking, Memory, Told}
use Rattle.protocol.specs.Plan.{Verdict, refused, does, Work, unless, all_yes, ask_of, no_room}
use Rattle.orders.specs.Order.{Order, entry_model}
use Rattle.orders.specs.Refusals.{number_of}
use Rattle.entries.specs.Named.{named_of}
use Rattle.orders.specs.declared.Refusal.{Refusal}
use Rattle.entries.specs.declared.named.NamedOrder.{NamedOrder}
use Rattle.home.specs.Verdicts.{stop_asking}

-- the memory's part of a ruling: the order is asked about, and every house of it has said yes
abbrev pub rulable : Option (Asking entry_model) → Verdict Order
rulable none = refused 12
rulable (some a) = cond (all_yes entry_model a) (does a.order) (refused 13)

-- a ruling: its record is written and synced, then yes is told and the order is no longer asked about
abbrev pub ruled_work : Order → Memory entry_model → Work entry_model
ruled_work t m = record { out = record { adds = Ruled t ∷ []; syncs = true; sends = Told t.name true ∷ [] }; memory = stop_asking t.name m }

-- the file's part of a ruling: there is room for the record
abbrev pub ruled_by : Verdict Order → (bytes : ℕ) → Memory entry_model → Verdict (Work entry_model)
ruled_by (refused k) bytes m = refused k
ruled_by (does t) bytes m = unless ((15, no_room entry_model (Ruled t) bytes) ∷ []) (ruled_work t m)

-- what the code's answer stands for
abbrev pub ruling : Result NamedOrder Refusal → Verdict Order
ruling (Ok k) = does (named_of k)
ruling (Err f) = refused (number_of f)

-- not refused
abbrev pub accepted : {X : Type 0} → Verdict X → Bool
accepted (refused k) = false
accepted (does x) = true

-- may the order of that name be ruled
abbrev pub may_rule : List (Asking entry_model) → Name → Bool
may_rule qs d = accepted (rulable (ask_of entry_model d qs))

-- the name of the first of the list, in the order of submitting, that may be ruled
abbrev pub next_rulable : (asking rest : List (Asking entry_model)) → Answer Name
next_rulable qs [] = None
next_rulable qs (a ∷ rest) = cond (may_rule qs a.order.name) (Some a.order.name) (next_rulable qs rest)
