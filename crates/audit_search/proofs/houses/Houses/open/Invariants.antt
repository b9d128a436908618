use Rattle.std.proofs.Common.{map, vec_items}
use Rattle.audit_search.specs.Audited.{StandTo}
use Rattle.audit_search.proofs.houses.Houses.open.Given as goal

abbrev pub invariant-loop-house : goal.invariant-loop-house
invariant-loop-house l = StandTo l.house (map vec_items l.files) (vec_items l.all)
