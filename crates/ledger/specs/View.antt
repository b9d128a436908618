-- The state of a house that a ledger and its shelves stand for. Assumes nothing.
use Rattle.std.specs.Prelude.{◌≡◌, ℕ, ◌+◌, ◌≤◌, true, List, map, vec_items}
use Rattle.protocol.specs.Model.{most_bytes}
use Rattle.protocol.specs.State.{State, rec_size, within_limits}
use Rattle.names.specs.Index.{in_index}
use Rattle.orders.specs.Order.{Rec, entry_model}
use Rattle.entries.specs.Named.{named_of}
use Rattle.ledger.specs.declared.Ledger.{Ledger}

-- what the ledger says, with the words of the lent slice as the shelves
abbrev pub view : Ledger → List ℕ → State entry_model
view l m = record {
  began = l.start;
  held = map named_of (vec_items l.held);
  shelves = m;
  ever = in_index l.ever;
  ruled = in_index l.ruled;
  bytes = l.bytes;
}

-- with one more record the house stays within its limits, and its file too
abbrev pub Fits : Rec → State entry_model → Type 0
Fits r v = (within_limits entry_model r v ≡ true) × (v.bytes + rec_size entry_model r ≤ most_bytes)
