use Rattle.promise.proofs.Stops.{ledger-codec, ledger-fits, main-stopped, accepts-all, writable, one}
use Rattle.promise.proofs.stops_stand.Goals as goal

pub returns : goal.returns
returns c = record { codec = ledger-codec; covered = main-stopped; fits = ledger-fits; accepts = accepts-all; writable = writable; one = one }
