use Rattle.std.proofs.Common.{◌≡◌, ◌-◌, List, length, drop, fold}
use Rattle.orders.specs.Order.{Rec}
use Rattle.orders.specs.File.{Reached}
use Rattle.scan.specs.Checksum.{plus_rec}
use Rattle.scan.proofs.checksum.scan_checksum.Given as goal

abbrev pub invariant-loop-record : goal.invariant-loop-record
invariant-loop-record l = (rs : List Rec) × Reached l.houses l.bytes rs (drop l.at l.bytes) × (l.sum ≡ fold plus_rec 0 rs)

abbrev pub decreases-loop-record : goal.decreases-loop-record
decreases-loop-record l = length l.bytes - l.at
