use Rattle.std.proofs.Common.{vec_items, ◌∙◌, rules}
use borrow.Author.Tests.{tests}
use Rattle.std.proofs.lemmas.Iterator.{YieldsList-from_slice}
use Rattle.std.proofs.lemmas.Iterator.Search.{any_from_yields_List}
use Rattle.ledger.proofs.HeldOrders.{equal, named_is}
use Rattle.entries.specs.declared.named.NamedOrder.{NamedOrder}
use Rattle.ledger.proofs.Ledger.holds_name.Goals as goal

pub returns : goal.returns
returns c =
    any_from_yields_List (λ (u : NamedOrder). equal c.args.name u.name) _ _ _ c.any.ensures.ran (YieldsList-from_slice (vec_items c.args.self.now.held) cc) (λ x b q k. search (rules, tests))
    ∙ named_is c.args.name (vec_items c.args.self.now.held)
