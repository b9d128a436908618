use Rattle.std.proofs.Common.{not, vec_items, map, ap, ◌∙◌, rules}
use borrow.Author.Tests.{tests}
use Rattle.std.proofs.lemmas.Fn.{filter_same}
use Rattle.entries.specs.Named.{named_of}
use Rattle.entries.specs.declared.named.NamedOrder.{NamedOrder}
use Rattle.ledger.proofs.HeldOrders.{equal, others_is}
use Rattle.ledger.proofs.held.take_out.Goals as goal

pub returns : goal.returns
returns c =
    ap (map named_of) (filter_same _ (λ (u : NamedOrder). not (equal c.args.name u.name)) _ (λ x b q k. search (rules, tests)) _ _ c.retain.ensures.filtered)
    ∙ others_is c.args.name (vec_items c.args.held.now)
