use Rattle.orders.proofs.MessageLaws.{message-reads-back, message-one-form, message-cut-short, message-more-behind}
use Rattle.orders.proofs.laws.message_laws.Goals as goal

pub returns : goal.returns
returns c = record { reads_back = message-reads-back; one_form = message-one-form; cut_short = message-cut-short; more_behind = message-more-behind }
