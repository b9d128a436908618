use Rattle.std.proofs.Common.{vec_items, sym}
use Rattle.home.specs.Memory.{memory_of}
use Rattle.home.proofs.Asks.{place-none, none_dropped, place-dropped}
use Rattle.home.proofs.Ends.{keeps-tried}
use Rattle.home.proofs.memory.Home.stop_asking.Goals as goal

pub returns-in_default-clause-memory : goal.returns-in_default-clause-memory
returns-in_default-clause-memory c = keeps-tried _ (sym (none_dropped c.args.name (memory_of c.args.self).asking (place-none c.args.name (vec_items c.args.self.asking) c.in_default.ensures)))

pub returns-clause-memory : goal.returns-clause-memory
returns-clause-memory c = keeps-tried _ (place-dropped c.args.name (vec_items c.args.self.asking) _ c.in-Some.i c.in-Some.ensures c.remove.ensures.items)
