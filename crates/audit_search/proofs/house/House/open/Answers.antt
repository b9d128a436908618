use Rattle.std.proofs.Common.{Err, sym, ◌≡◌, ◌∙◌, subst, rules}
use Rattle.std.proofs.lemmas.List.{take_at}
use Rattle.audit_search.specs.Audited.{HouseOpened}
use Rattle.audit_search.proofs.Stand.{house-opened, mapped-ok, mapped-err}
use Rattle.audit_search.proofs.house.House.open.Goals as goal

pub returns-in_err-ledger : goal.returns-in_err-ledger
returns-in_err-ledger c =
    let e : c.from_residual-in_err-ledger.result ≡ Err c.in_err-ledger.field-0.0 = search rules in
    subst (HouseOpened c.args.houses c.args.house c.args.bytes.now) (sym e)
    (mapped-err c.args.houses c.args.house c.args.bytes.now _ _ _ c.open-opened.result c.map_err.result c.open-opened.ensures c.map_err.ensures.cases (λ t f q. search rules) _ c.in_err-ledger.was)

pub returns : goal.returns
returns c = house-opened c.args.houses c.args.house c.args.bytes.now c.as_mut_slice.result.now c.open-opened.new.shelves c.in_ok-ledger.ledger c.in_ok-done.done _
    (mapped-ok c.args.houses c.args.house c.args.bytes.now _ _ _ c.open-opened.result c.map_err.result c.open-opened.ensures c.map_err.ensures.cases c.in_ok-ledger.ledger c.in_ok-ledger.was)
    c.in_ok-done.ensures (take_at c.open-opened.new.shelves _ c.in_ok-shelves.shelves.len (c.open-opened.auto.shelves ∙ c.as_mut_slice.ensures.len))
