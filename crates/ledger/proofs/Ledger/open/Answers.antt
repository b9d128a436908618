use Rattle.std.proofs.Common.{Err, sym, refl, ap, ◌∙◌, subst}
use Rattle.std.proofs.lemmas.Result.{err_from_is_err_and}
use Rattle.ledger.specs.View.{view}
use Rattle.ledger.specs.Opening.{no_house, is_house, Opened}
use Rattle.ledger.proofs.Replay.{replayed-opened, replayed-refused}
use Rattle.ledger.proofs.Ledger.open.Goals as goal

pub returns-then-not-is_house : goal.returns-then-not-is_house
returns-then-not-is_house c =
    subst (λ x. Opened c.args.houses c.args.house c.args.bytes.now c.args.shelves.now c.args.shelves.now (Err x)) (sym c.into.ensures)
    (refl, no_house (sym c.if-not-is_house.ensures) refl)

pub returns : goal.returns
returns c =
    replayed-opened c.args.houses c.args.house c.new-ledger.result.house c.args.bytes.now c.replay.new.self c.replay.new.shelves c.args.shelves.now c.copy_from_slice.new.self
    c.new-ledger.ensures.house c.in_ok-replay.ensures.house c.copy_from_slice.ensures.after c.in_ok-replay.ensures.answer

pub replay-requires : goal.replay-requires
replay-requires c = record { house = ap (is_house c.args.houses) c.new-ledger.ensures.house ∙ sym c.if-not-is_house.ensures; empty = c.new-ledger.ensures.empty }

pub returns-in_err-replay : goal.returns-in_err-replay
returns-in_err-replay c =
    let p = err_from_is_err_and c.from_residual.result c.from_residual.ensures.1 in
    subst (Opened c.args.houses c.args.house c.args.bytes.now c.args.shelves.now c.args.shelves.now) (sym (p.1 ∙ ap (λ x. Err x) p.2))
    (replayed-refused c.args.houses c.args.house c.new-ledger.result.house c.args.bytes.now (view c.replay.new.self c.replay.new.shelves) c.args.shelves.now c.in_err-replay.field-0.0 c.new-ledger.ensures.house c.in_err-replay.ensures.answer)
