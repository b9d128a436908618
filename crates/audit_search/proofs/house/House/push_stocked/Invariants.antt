use Rattle.std.proofs.Common.{◌≡◌, ◌++◌, drop, vec_items}
use Rattle.audit_search.specs.Search.{stocked_in}
use Rattle.audit_search.proofs.house.House.push_stocked.Given as goal

abbrev pub invariant-loop-item : goal.invariant-loop-item
invariant-loop-item l = vec_items l.all ++ stocked_in l.house l.item (drop l.item l.amount-items) ≡ vec_items l.initial.all ++ stocked_in l.house 0 l.amount-items
