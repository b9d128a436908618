use Rattle.std.proofs.Common.{◌≡◌, ◌||◌}
use Rattle.protocol.specs.declared.Name.{Name}
use Rattle.names.specs.Index.{in_index}
use Rattle.orders.specs.File.{records}
use Rattle.orders.specs.Answers.{to_come}
use Rattle.audit_search.specs.Account.{was_done}
use Rattle.audit_search.proofs.house.done_names.Given as goal

abbrev pub invariant-loop-record : goal.invariant-loop-record
invariant-loop-record l = (d : Name) → (in_index l.done d || was_done d (to_come l.record-iterator)) ≡ was_done d (records l.houses l.bytes)
