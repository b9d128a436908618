use Rattle.std.proofs.Common.{sym}
use Rattle.home.specs.Memory.{memory_of}
use Rattle.home.proofs.Ends.{refuses, accepts, gives_up, none-given-up}
use Rattle.home.proofs.memory.Home.give_up.Goals as goal

pub returns-then-not-is_asking : goal.returns-then-not-is_asking
returns-then-not-is_asking c = refuses _ _ _ _ (none-given-up c.args.name (memory_of c.args.self) (sym c.if-not-is_asking.ensures))

pub returns : goal.returns
returns c =
    accepts _ _ _ _
    (gives_up c.args.name (memory_of c.args.self) _ (sym c.if-not-is_asking.ensures) c.stop_asking.ensures.memory)
    c.stop_asking.ensures.house
    c.stop_asking.ensures.start
