use Rattle.ledger.specs.View.{view}
use Rattle.steps.proofs.Plans.{answer-backed}
use Rattle.steps.proofs.ask.answer.Goals as goal

pub send-requires : goal.send-requires
send-requires g c = answer-backed _ _ c.args.name _ (view c.args.ledger.now c.args.shelves.now) c.in_ok-yes.yes c.requires c.in_ok-yes.ensures
