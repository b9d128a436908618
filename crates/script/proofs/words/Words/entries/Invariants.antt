use Rattle.std.proofs.Common.{◌≡◌, ◌-◌, [], length, take}
use Rattle.script.specs.Answers.{left}
use Rattle.script.proofs.Lists.{after}
use Rattle.script.proofs.words.Words.entries.Given as goal

abbrev pub invariant-loop-slot : goal.invariant-loop-slot
invariant-loop-slot l = (length l.slot-items ≡ l.count) × (after (take l.slot-index l.slot-items) (l.count - l.slot-index) (left l.self) ≡ after [] l.count (left l.initial.self))
