use Rattle.std.proofs.Common.{◌≡◌, ℕ, [], ◌∷◌, Ok, refl, ap, ◌∙◌, subst}
use Rattle.protocol.specs.Net.{Yes}
use Rattle.entries.specs.Named.{named_of}
use Rattle.ledger.specs.View.{view}
use Rattle.ledger.specs.Answers.{admission, HoldGrounds}
use Rattle.ledger.specs.declared.Admission.{Admission}
use Rattle.protocol.specs.Plan.{plan_hold}
use Rattle.orders.specs.Order.{entry_model}
use Rattle.steps.specs.Hosts.{spoken}
use Rattle.steps.proofs.Driving.{again-backed, fresh-backed, spoken-step, spoken-tied}
use Rattle.steps.proofs.hold.hold.Goals as goal

pub send-requires : goal.send-requires
send-requires g c =
    let v = view c.args.ledger.now c.args.shelves.now in
    let t = named_of c.args.order.now in
    again-backed _ 0 _ v t c.requires (subst (λ (a : Admission). HoldGrounds t v (Ok a)) c.in-Again.is c.in_ok-may_hold.ensures.grounds)

pub note_and_commit-requires-clause-backed : goal.note_and_commit-requires-clause-backed
note_and_commit-requires-clause-backed g c = fresh-backed _ 0 _ _ (named_of c.args.order.now) c.requires

pub returns-in_ok-send-in-Again : goal.returns-in_ok-send-in-Again
returns-in_ok-send-in-Again g c =
    let x = g.H.Host.world c.args.host.now in
    let y = g.H.Host.world c.send.new.self in
    let v = view c.args.ledger.now c.args.shelves.now in
    let i = c.args.ledger.now.house in
    let t = named_of c.args.order.now in
    let s : y ≡ spoken (Yes i t.name ∷ []) x = c.in_ok-send-in-Again.ensures ∙ ap (λ (j : ℕ). spoken (Yes j t.name ∷ []) x) c.house.ensures in
    let said = subst (λ (a : Admission). admission i t (Ok a) ≡ plan_hold entry_model i t v) c.in-Again.is c.in_ok-may_hold.ensures.answer in
    record { step = spoken-step i (plan_hold entry_model i t v) (Yes i t.name ∷ []) x y v said s; tied = spoken-tied i (Yes i t.name ∷ []) x y v s c.requires; house = refl }
