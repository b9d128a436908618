use Rattle.ledger.specs.View.{view}
use Rattle.steps.proofs.Plans.{synced-performs, synced-tied}
use Rattle.steps.proofs.sync.sync.Goals as goal

pub returns : goal.returns
returns g c =
    let x = g.H.Host.world c.args.host.now in
    let y = g.H.Host.world c.sync.new.self in
    record { step = synced-performs x y c.sync.result c.sync.ensures; tied = synced-tied c.args.ledger.now.house x y (view c.args.ledger.now c.args.shelves.now) c.sync.result c.sync.ensures c.requires }
