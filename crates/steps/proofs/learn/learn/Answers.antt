use Rattle.protocol.specs.Plan.{plan_learn}
use Rattle.orders.specs.Order.{entry_model}
use Rattle.ledger.specs.View.{view}
use Rattle.steps.proofs.Plans.{learnt-fits, learnt-step, learnt-tied}
use Rattle.steps.proofs.learn.learn.Goals as goal

pub note-requires : goal.note-requires
note-requires g c = learnt-fits c.args.name c.args.yes _ (view c.args.ledger.now c.args.shelves.now) (c.learnt.ensures _) c.in_ok-may_learn.ensures.grounds

pub returns : goal.returns
returns g c =
    let x = g.H.Host.world c.args.host.now in
    let y = g.H.Host.world c.note.new.host in
    let v = view c.args.ledger.now c.args.shelves.now in
    let u = view c.note.new.ledger c.note.new.shelves in
    let i = c.args.ledger.now.house in
    let d = c.args.name in
    let b = c.args.yes in
    record {
      step = learnt-step i d b _ (plan_learn entry_model d b v) x y v u c.note.result (c.learnt.ensures _) c.in_ok-may_learn.ensures.answer c.note.ensures.step;
      tied = learnt-tied i d b _ x y v u c.note.result (c.learnt.ensures _) c.requires c.note.ensures.step;
      house = c.note.ensures.house;
    }
