use Rattle.std.proofs.Common.{◌≡◌, ◌-◌, length}
use Rattle.ledger.specs.View.{view}
use Rattle.ledger.specs.Opening.{ReadTo}
use Rattle.ledger.proofs.Ledger.replay.Given as goal

abbrev pub invariant-loop-record : goal.invariant-loop-record
invariant-loop-record l = ReadTo l.houses l.initial.self.house l.bytes (view l.self l.shelves) × (l.self.house ≡ l.initial.self.house)

abbrev pub decreases-loop-record : goal.decreases-loop-record
decreases-loop-record l = length l.bytes - l.self.bytes
