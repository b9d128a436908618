use Rattle.std.proofs.Common.{◌≡◌, take}
use Rattle.orders.specs.Encode.{entries_bytes}
use Rattle.orders.specs.Room.{over}
use Rattle.orders.proofs.encode.put_entries.Given as goal

abbrev pub invariant-loop-i : goal.invariant-loop-i
invariant-loop-i l = l.out ≡ over (entries_bytes (take l.i l.entries)) l.initial.out
