use Rattle.ledger.proofs.Once.{opens-once, says-file}
use Rattle.ledger.proofs.opening.opening_laws.Goals as goal

pub returns : goal.returns
returns c = record { once = opens-once; says = says-file }
