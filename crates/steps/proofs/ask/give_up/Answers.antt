use Rattle.std.proofs.Common.{false}
use Rattle.protocol.specs.Net.{Told}
use Rattle.protocol.specs.Plan.{plan_give_up}
use Rattle.orders.specs.Order.{entry_model}
use Rattle.home.specs.Memory.{memory_of}
use Rattle.steps.proofs.Plans.{said-speaks}
use Rattle.steps.proofs.ask.give_up.Goals as goal

pub returns-clause-step : goal.returns-clause-step
returns-clause-step g c =
    said-speaks (Told c.args.name false) (memory_of c.give_up-home.result.0) c.give_up-home.result.1 (plan_give_up entry_model c.args.name (memory_of c.args.home)) (g.H.Host.world c.args.host.now) (g.H.Host.world c.say-said.new.host) c.say-said.result
    c.give_up-home.ensures.decision c.say-said.ensures
