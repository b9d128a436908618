use Rattle.ledger.specs.View.{view}
use Rattle.steps.proofs.Starting.{holds_read}
use Rattle.steps.proofs.start.open_log.Goals as goal

pub returns : goal.returns
returns c =
    let o = c.in_ok-open.ensures in
    (o.0, holds_read c.args.houses c.args.house c.args.bytes.now (view c.in_ok-open.field-0 c.open.new.shelves) c.type_inv.bytes o.1 o.2)
