use Rattle.std.proofs.Common.{◌≡◌, map, drop}
use Rattle.entries.specs.Named.{named_of}
use Rattle.audit_search.specs.Search.{first_lacking}
use Rattle.audit_search.specs.Audited.{account}
use Rattle.audit_search.proofs.houses.Houses.check_kept.Given as goal

abbrev pub invariant-loop-i : goal.invariant-loop-i
invariant-loop-i l = first_lacking (named_of l.order) l.i (map account (drop l.i l.house-items)) ≡ first_lacking (named_of l.order) 0 (map account l.house-items)
