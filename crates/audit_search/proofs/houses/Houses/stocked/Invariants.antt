use Rattle.std.proofs.Common.{◌≡◌, ◌++◌, map, drop, vec_items}
use Rattle.audit_search.specs.Search.{stocked}
use Rattle.audit_search.specs.Audited.{shelves_of}
use Rattle.audit_search.proofs.houses.Houses.stocked.Given as goal

abbrev pub invariant-loop-i : goal.invariant-loop-i
invariant-loop-i l = vec_items l.stocked ++ stocked l.i (map shelves_of (drop l.i l.house-items)) ≡ stocked 0 (map shelves_of l.house-items)
