use Rattle.std.proofs.Common.{◌≡◌, Err, Result, sym, refl, rules}
use mathlib.Core.Path.{subst⁻¹}
use Rattle.protocol.specs.Plan.{plan_rule}
use Rattle.orders.specs.Order.{entry_model}
use Rattle.orders.specs.Refusals.{number_of}
use Rattle.orders.specs.declared.Refusal.{Refusal}
use Rattle.entries.specs.Named.{named_of}
use Rattle.entries.specs.declared.named.NamedOrder.{NamedOrder}
use Rattle.home.specs.Memory.{memory_of}
use Rattle.home.specs.Verdicts.{stop_asking}
use Rattle.home.proofs.Rules.{rule-refused, rule-full, rule-done}
use Rattle.steps.specs.Stepped.{Granted}
use Rattle.steps.proofs.Plans.{turned}
use Rattle.steps.proofs.rule.may_rule.Goals as goal

pub returns-in_err-order-clause-granted : goal.returns-in_err-order-clause-granted
returns-in_err-order-clause-granted c =
    let m = memory_of c.args.home.now in
    let e : c.from_residual.result ≡ Err c.in_err-order.field-0.0 = search rules in
    subst⁻¹ (λ (r : Result NamedOrder Refusal). Granted (plan_rule entry_model c.args.name c.args.ledger.now.bytes m) m r) e
    (sym (rule-refused c.args.name c.args.ledger.now.bytes m (number_of c.in_err-order.field-0.0) c.in_err-order.ensures))

pub returns-then-not-has_room-clause-granted : goal.returns-then-not-has_room-clause-granted
returns-then-not-has_room-clause-granted c =
    let t = named_of c.in_ok-order.order in
    sym (rule-full c.args.name c.args.ledger.now.bytes (memory_of c.args.home.now) t c.in_ok-order.ensures (turned _ _ c.if-not-has_room.ensures))

pub returns-clause-granted : goal.returns-clause-granted
returns-clause-granted c =
    let t = named_of c.in_ok-order.order in
    let m = memory_of c.args.home.now in
    sym (rule-done c.args.name c.args.ledger.now.bytes m t (stop_asking t.name m) c.in_ok-order.ensures (turned _ _ c.if-not-has_room.ensures) refl)
