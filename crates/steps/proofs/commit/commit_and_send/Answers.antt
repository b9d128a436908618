use Rattle.orders.specs.Encode.{rec_bytes}
use Rattle.orders.specs.Values.{rec_of, msg_of}
use Rattle.steps.proofs.Commits.{backed-synced}
use Rattle.steps.proofs.commit.commit_and_send.Goals as goal

pub send-requires : goal.send-requires
send-requires g c =
    let x = g.H.Host.world c.args.host.now in
    backed-synced (msg_of c.args.message c.args.order.now) (rec_bytes (rec_of c.args.record c.args.order.now)) x _ _ c.in_ok-append_record.ensures c.in_ok-sync.ensures c.requires
