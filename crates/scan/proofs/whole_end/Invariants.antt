use Rattle.std.proofs.Common.{◌-◌, ◌≤◌, List, length, drop}
use Rattle.orders.specs.Order.{Rec}
use Rattle.orders.specs.File.{Reached}
use Rattle.scan.proofs.whole_end.Given as goal

abbrev pub invariant-loop-next : goal.invariant-loop-next
invariant-loop-next l = (l.at ≤ length l.bytes) × ((rs : List Rec) × Reached l.houses l.bytes rs (drop l.at l.bytes))

abbrev pub decreases-loop-next : goal.decreases-loop-next
decreases-loop-next l = length l.bytes - l.at
