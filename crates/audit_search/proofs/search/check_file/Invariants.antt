use Rattle.std.proofs.Common.{◌≡◌, ℕ, Option}
use Rattle.orders.specs.Order.{Rec}
use Rattle.orders.specs.File.{records}
use Rattle.orders.specs.Answers.{to_come}
use Rattle.audit_search.specs.declared.faults.Fault.{Fault}
use Rattle.audit_search.specs.Search.{Checks, first_in}
use Rattle.audit_search.proofs.search.check_file.Given as goal

abbrev pub invariant-loop-record : goal.invariant-loop-record
invariant-loop-record g l = (f : ℕ → Rec → Option Fault) → Checks (goal.F-post g l.check) f → first_in (f l.house) (to_come l.record-iterator) ≡ first_in (f l.house) (records l.count l.bytes)
