use Rattle.std.proofs.Common.{arith}
use Rattle.orders.proofs.Behind.{past-end, behind-within, behind-on, behind-is}
use Rattle.orders.proofs.read.record_into.Goals as goal

pub returns-in_default-clause-value : goal.returns-in_default-clause-value
returns-in_default-clause-value c = past-end c.args.houses c.args.bytes.now c.args.at (omega (arith, c.in_default.ensures.lookup))

pub overflow_sub-result : goal.overflow_sub-result
overflow_sub-result c = behind-within c.args.bytes.now c.args.at _ _ _ c.in-Some.ensures.lookup.0.2 c.in_ok-record.ensures

pub returns-clause-value : goal.returns-clause-value
returns-clause-value c = behind-is c.args.bytes.now c.args.at _ _ _ c.in-Some.ensures.lookup.0.2 c.in_ok-record.ensures c.args.houses c.if-not-record_ok.ensures

pub returns-clause-next : goal.returns-clause-next
returns-clause-next c = (behind-on c.args.bytes.now c.args.at _ _ _ c.in-Some.ensures.lookup.0.2 c.in_ok-record.ensures, omega arith)
