use Rattle.std.proofs.Common.{rules}
use Rattle.audit_search.proofs.Meaning.{sound-exactly, faults-there}
use Rattle.audit_search.proofs.Stand.{read-once}
use Rattle.audit_search.proofs.audit.Goals as goal

pub returns : goal.returns
returns c = record { answer = search rules; once = read-once; sound = sound-exactly; faults = faults-there }
