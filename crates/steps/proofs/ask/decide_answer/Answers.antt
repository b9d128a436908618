use Rattle.std.proofs.Common.{sym, ◌∙◌, arith, le-ltb, lt-ltb, eq-eqb}
use Rattle.ledger.specs.View.{view}
use Rattle.home.specs.Memory.{memory_of}
use Rattle.steps.proofs.Plans.{no_old, no-over, no_answer}
use Rattle.steps.proofs.ask.decide_answer.Goals as goal
use Rattle.steps.proofs.ask.decide_answer.Goals.{then-name-start-via-then-name-start, then-name-start-via-else-name-start+then-is_over}

-- of an earlier start, or tried in this one and no longer asked about
pub returns-then-name-start : goal.returns-then-name-start
returns-then-name-start c =
    let here = eq-eqb _ _ (c.if-name-house.false ∙ c.house.ensures) in
    let unruled = sym c.has_ruled.ensures ∙ c.if-has_ruled.false in
    elim c.then-name-start.branch [
      | then-name-start-via-then-name-start w ↦
          no_old c.args.ledger.now.house c.args.name (view c.args.ledger.now c.args.shelves.now) (memory_of c.args.home.now) here unruled
          (lt-ltb c.args.name.start c.args.ledger.now.start (omega (arith, w.if-name-start.true, c.start.ensures.value)))
      | then-name-start-via-else-name-start+then-is_over w ↦
          no-over c.args.ledger.now.house c.args.name (view c.args.ledger.now c.args.shelves.now) (memory_of c.args.home.now) here unruled (sym w.is_over.ensures ∙ w.if-is_over.true)
    ]

pub returns : goal.returns
returns c =
    no_answer c.args.ledger.now.house c.args.name (view c.args.ledger.now c.args.shelves.now) (memory_of c.args.home.now)
    (eq-eqb _ _ (c.if-name-house.false ∙ c.house.ensures)) (sym c.has_ruled.ensures ∙ c.if-has_ruled.false)
    (le-ltb c.args.name.start c.args.ledger.now.start (omega (arith, c.if-name-start.false, c.start.ensures.value))) (sym c.is_over.ensures ∙ c.if-is_over.false)
