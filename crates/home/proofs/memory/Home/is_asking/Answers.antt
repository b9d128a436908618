use Rattle.std.proofs.Common.{rules}
use Rattle.home.proofs.Asks.{place-asked}
use Rattle.home.proofs.memory.Home.is_asking.Goals as goal

pub returns : goal.returns
returns c = search (rules, place-asked)
