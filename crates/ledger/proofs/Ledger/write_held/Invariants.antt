use Rattle.std.proofs.Common.{◌≡◌, vec_items, map, drop}
use Rattle.protocol.specs.House.{done_of}
use Rattle.orders.specs.Order.{entry_model}
use Rattle.entries.specs.Named.{named_of}
use Rattle.ledger.proofs.Ledger.write_held.Given as goal

abbrev pub invariant-loop-u : goal.invariant-loop-u
invariant-loop-u l =
    done_of entry_model l.self.house l.name (map named_of (drop l.u-index (vec_items l.self.held))) l.shelves
    ≡ done_of entry_model l.self.house l.name (map named_of (vec_items l.self.held)) l.initial.shelves
