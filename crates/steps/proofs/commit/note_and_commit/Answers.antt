use Rattle.std.proofs.Common.{refl}
use Rattle.protocol.specs.Plan.{does}
use Rattle.orders.specs.Values.{rec_of, msg_of}
use Rattle.ledger.specs.View.{view}
use Rattle.steps.proofs.Driving.{commit, commit-step, commit-tied}
use Rattle.steps.proofs.commit.note_and_commit.Goals as goal

pub returns : goal.returns
returns g c =
    let x = g.H.Host.world c.args.host.now in
    let y = g.H.Host.world c.commit_and_send.new.host in
    let v = view c.args.ledger.now c.args.shelves.now in
    let u = view c.apply.new.self c.apply.new.shelves in
    let i = c.args.ledger.now.house in
    let r = rec_of c.args.record c.args.order.now in
    let m = msg_of c.args.message c.args.order.now in
    let s = c.in_ok-commit_and_send.ensures in
    let n = c.in_ok-apply.ensures in
    record { step = commit-step i (does (commit r m)) r m x y v u refl s n.view; tied = commit-tied i r m x y v u s n.view c.requires.tied; house = n.house }
