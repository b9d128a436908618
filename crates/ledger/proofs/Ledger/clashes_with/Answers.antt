use Rattle.std.proofs.Common.{vec_items, ◌∙◌, rules}
use borrow.Author.Tests.{tests}
use Rattle.std.proofs.lemmas.Iterator.{YieldsList-from_slice}
use Rattle.std.proofs.lemmas.Iterator.Search.{any_from_yields_List}
use Rattle.orders.specs.Order.{clash}
use Rattle.entries.specs.Named.{named_of}
use Rattle.ledger.proofs.HeldOrders.{clashes_is}
use Rattle.entries.specs.declared.named.NamedOrder.{NamedOrder}
use Rattle.ledger.proofs.Ledger.clashes_with.Goals as goal

pub returns : goal.returns
returns c =
    any_from_yields_List (λ (u : NamedOrder). clash (named_of c.args.order.now) (named_of u)) _ _ _ c.any.ensures.ran (YieldsList-from_slice (vec_items c.args.self.now.held) cc) (λ x b q k. search (rules, tests))
    ∙ clashes_is (named_of c.args.order.now) (vec_items c.args.self.now.held)
