use Rattle.promise.proofs.Promises.{parts, parts-run, kept, kept_run}
use Rattle.promise.proofs.parts_stand.Goals as goal

pub returns : goal.returns
returns c = record { reached = parts; runs = parts-run; kept = kept; later = kept_run }
