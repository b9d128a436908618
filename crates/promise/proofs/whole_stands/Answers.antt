use Rattle.promise.proofs.Promises.{main, main-run}
use Rattle.promise.proofs.whole_stands.Goals as goal

pub returns : goal.returns
returns c = record { reached = main; runs = main-run }
