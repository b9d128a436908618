use Rattle.std.proofs.Common.{◌<◌, ◌≤◌, length, get_or, subst, vec_items, true, false, sym, ap, ◌∙◌}
use Rattle.orders.specs.Order.{ours}
use Rattle.ledger.proofs.HeldOrders.{done_more, done_end}
use Rattle.ledger.proofs.Ledger.write_held.Goals as goal
use Rattle.ledger.proofs.Ledger.write_held.Goals.{then-eq, else-eq}

pub loop-u-preserved : goal.loop-u-preserved
loop-u-preserved c =
    let e = c.deref-u-items.ensures.value in
    let d = done_more c.args.self.now.house c.args.name (vec_items c.args.self.now.held) c.loop-u.u-index c.loop-u.shelves c.u-item.result
    (subst (λ xs. c.loop-u.u-index < length xs) e c.loop-u-test.true)
    (c.u-item.is ∙ ap (λ xs. get_or xs c.loop-u.u-index c.u-item.result) e) in
    elim c.if-eq.branch [
      | then-eq w ↦ d true (sym c.eq.ensures ∙ w.if-eq.true) _ (w.shelves-is ∙ w.write_entries.ensures ∙ (λ i. ours (w.from.ensures i) (w.writes.ensures i) c.loop-u.shelves)) ∙ c.loop-u.invariant
      | else-eq w ↦ d false (sym c.eq.ensures ∙ w.if-eq.false) _ w.shelves-is ∙ c.loop-u.invariant
    ]

pub returns : goal.returns
returns c = sym (done_end c.args.self.now.house c.args.name (vec_items c.args.self.now.held) c.loop-u.u-index c.loop-u.shelves (subst (λ xs. length xs ≤ c.loop-u.u-index) c.deref-u-items.ensures.value c.loop-u-test.false)) ∙ c.loop-u.invariant
