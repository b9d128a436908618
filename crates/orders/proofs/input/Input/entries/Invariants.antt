use Rattle.std.proofs.Common.{◌≡◌, ◌*◌, length, take, drop}
use Rattle.orders.specs.Parse.{got, entries}
use Rattle.orders.proofs.input.Input.entries.Given as goal

abbrev pub invariant-loop-i : goal.invariant-loop-i
invariant-loop-i l =
    let front = take (8 * length l.fn.all) l.fn.self.rest.now in
    entries l.i front ≡ got (take l.i l.all) (drop (8 * l.i) front)
