use Rattle.std.proofs.Common.{length, refl, ap, arith}
use Rattle.orders.proofs.Listing.{records-next, records_none}
use Rattle.orders.proofs.records.RecordsIterator.next.Goals as goal

pub returns-in_default-clause-steps : goal.returns-in_default-clause-steps
returns-in_default-clause-steps c =
    let none = records_none c.args.self.now.houses c.args.self.now.rest.now c.args.self.now.rest.now c.record_at.result c.record_at.ensures.value c.in_default.not-Ok in
    (none, none)

pub returns-clause-steps : goal.returns-clause-steps
returns-clause-steps c = records-next c.args.self.now.houses c.in-Ok.next c.args.self.now.rest.now _ _ refl c.in-Ok.ensures.value

pub returns-clause-goes : goal.returns-clause-goes
returns-clause-goes c =
    let more = records-next c.args.self.now.houses c.in-Ok.next c.args.self.now.rest.now _ _ refl c.in-Ok.ensures.value in
    record { on = λ _. (tt, tt, omega (arith, ap length more)); keeps = tt; rests = λ _. tt }
