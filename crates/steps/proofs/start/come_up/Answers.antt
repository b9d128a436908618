use Rattle.std.proofs.Common.{◌≡◌, ℕ, Err, Result, ap, ◌∙◌, rules}
use mathlib.Core.Path.{subst⁻¹}
use Rattle.ledger.specs.declared.Ledger.{Ledger}
use Rattle.steps.specs.declared.broken.Trouble.{Trouble}
use Rattle.steps.specs.Start.{CameUp}
use Rattle.protocol.specs.House.{Began}
use Rattle.protocol.specs.State.{apply}
use Rattle.orders.specs.Order.{entry_model}
use Rattle.ledger.specs.View.{view}
use Rattle.steps.proofs.Starting.{down, up}
use Rattle.steps.proofs.start.come_up.Goals as goal

pub returns-in_err-ledger : goal.returns-in_err-ledger
returns-in_err-ledger g c =
    let x = g.H.Host.world c.args.host.now in
    let e : c.from_residual.result ≡ Err c.in_err-ledger.field-0.0 = search rules in
    let o = down c.args.houses c.args.house c.log.result.now c.args.shelves.now c.open_log.new.shelves x c.in_err-ledger.field-0.0 c.log.ensures c.in_err-ledger.ensures in
    subst⁻¹ (λ (r : Result Ledger Trouble). CameUp c.args.houses c.args.house x x c.open_log.new.shelves r) e o

pub returns : goal.returns
returns g c =
    let x = g.H.Host.world c.args.host.now in
    let a = g.H.Host.world c.cut.new.self in
    let b = g.H.Host.world c.append_record.new.host in
    let y = g.H.Host.world c.sync.new.self in
    let v = view c.in_ok-ledger.ledger c.open_log.new.shelves in
    let u = view c.apply.new.self c.apply.new.shelves in
    let o = c.in_ok-ledger.ensures in
    let s = c.in_ok-apply.ensures in (
      s.house ∙ o.0,
      up c.args.houses c.args.house c.log.result.now x a b y v u c.bytes-len.result c.log.ensures o.1 c.bytes-len.ensures.value c.in_ok-cut.ensures c.in_ok-append_record.ensures c.in_ok-sync.ensures
          (s.view ∙ ap (λ (h : ℕ). apply entry_model h Began v) o.0),
    )
