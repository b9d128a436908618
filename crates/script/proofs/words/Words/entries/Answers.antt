use Rattle.std.proofs.Common.{sym, ◌∙◌, arith, length-set}
use Rattle.std.proofs.lemmas.Bool.{lt-leb, cond-false}
use Rattle.script.specs.Parse.{counted}
use Rattle.script.proofs.Chains.{given-none, bad-first, then_next}
use Rattle.script.proofs.Lists.{turn-bad, turn_more, turn_end, few-entries}
use Rattle.script.proofs.words.Words.entries.Goals as goal

pub returns-in_err-count-clause-value : goal.returns-in_err-count-clause-value
unfolding counted
returns-in_err-count-clause-value c = given-none _ _ _ _ c.from_residual.ensures (bad-first _ _ c.in_err-count.ensures)

pub returns-then-count-gt-MAX_ENTRIES-clause-value : goal.returns-then-count-gt-MAX_ENTRIES-clause-value
unfolding counted
returns-then-count-gt-MAX_ENTRIES-clause-value c = then_next _ _ _ _ _ c.in_ok-count.ensures (sym (cond-false _ _ _ (lt-leb _ _ c.if-count-gt-MAX_ENTRIES.true)))

pub returns-in_err-slot-clause-value : goal.returns-in_err-slot-clause-value
unfolding counted
returns-in_err-slot-clause-value c = given-none _ _ _ _ c.from_residual-in_err-slot.ensures (then_next _ _ _ _ _ c.in_ok-count.ensures (few-entries _ _ _ c.if-count-gt-MAX_ENTRIES.false (turn-bad _ _ c.in_ok-count.field-0 _ _ (omega arith) c.loop-slot.invariant.1 c.in_err-slot.ensures)))

pub loop-slot-preserved : goal.loop-slot-preserved
loop-slot-preserved c = (
  length-set _ _ _ ∙ c.loop-slot.invariant.0,
  turn_more _ _ c.in_ok-count.field-0 _ _ _ _ (omega arith) (omega (arith, c.loop-slot.invariant.0)) c.loop-slot.invariant.1 c.in_ok-slot.ensures,
)

pub returns-clause-value : goal.returns-clause-value
unfolding counted
returns-clause-value c = then_next _ _ _ _ _ c.in_ok-count.ensures (few-entries _ _ _ c.if-count-gt-MAX_ENTRIES.false (turn_end _ _ c.loop-slot.slot-index c.in_ok-count.field-0 _ _ (omega (arith, c.loop-slot.invariant.0)) c.loop-slot.invariant.0 c.loop-slot.invariant.1))
