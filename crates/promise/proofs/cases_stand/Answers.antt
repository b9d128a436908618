use Rattle.promise.proofs.Tables.{all-rows, all-refusals, all-full}
use Rattle.promise.proofs.cases_stand.Goals as goal

pub returns : goal.returns
returns c = record { rows = all-rows; refusals = all-refusals; full = all-full }
