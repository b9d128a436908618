use Rattle.orders.proofs.Lengths.{sized}
use Rattle.orders.proofs.ReadBack.{reads-back}
use Rattle.orders.proofs.OneForm.{one_form}
use Rattle.orders.proofs.Longer.{cut_short, more-behind, stays-refused}
use Rattle.orders.proofs.laws.record_laws.Goals as goal

pub returns : goal.returns
returns c = record { reads_back = reads-back; one_form = one_form; cut_short = cut_short; more_behind = more-behind; stays_refused = stays-refused; sized = sized }
