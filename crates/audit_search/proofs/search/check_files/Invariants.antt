use Rattle.std.proofs.Common.{◌≡◌, ℕ, map, drop, vec_items, Option}
use Rattle.orders.specs.Order.{Rec}
use Rattle.orders.specs.File.{records}
use Rattle.audit_search.specs.declared.faults.Fault.{Fault}
use Rattle.audit_search.specs.Search.{Checks, first_over}
use Rattle.audit_search.proofs.search.check_files.Given as goal

abbrev pub invariant-loop-house : goal.invariant-loop-house
invariant-loop-house g l =
    (f : ℕ → Rec → Option Fault) → Checks (goal.F-post g l.check) f →
    first_over f l.house (map (records l.count) (map vec_items (drop l.house l.files))) ≡ first_over f 0 (map (records l.count) (map vec_items l.files))
