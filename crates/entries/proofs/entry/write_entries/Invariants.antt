use Rattle.std.proofs.Common.{◌≡◌, take}
use Rattle.orders.specs.Order.{ours}
use Rattle.entries.proofs.entry.write_entries.Given as goal

abbrev pub invariant-loop-e : goal.invariant-loop-e
invariant-loop-e l = l.shelves ≡ ours l.house (take l.e-index l.entries) l.initial.shelves
