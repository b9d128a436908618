use Rattle.std.proofs.Common.{◌≡◌, ℕ, ◌<◌, true, get_or}
use Rattle.orders.specs.declared.Entry.{Entry}
use Rattle.home.specs.Memory.{marked}
use Rattle.home.proofs.asked.Asked.all_said.Given as goal

abbrev pub invariant-houses : goal.invariant-houses
invariant-houses l = (l.all ≡ true) × ((k : ℕ) (d : Entry) → k < l.e-index → marked l.self.yes (get_or l.entries k d) ≡ true)
