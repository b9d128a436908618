use Rattle.std.proofs.Common.{◌≡◌}
use Rattle.entries.specs.Named.{named_of}
use Rattle.ledger.specs.View.{view}
use Rattle.measure.specs.Measured.{answers}
use Rattle.measure.proofs.answer_numbers.Given as goal

abbrev pub invariant-loop-number : goal.invariant-loop-number
invariant-loop-number l = l.sum ≡ answers l.ledger.house (named_of l.order) (view l.ledger l.shelves) l.number
