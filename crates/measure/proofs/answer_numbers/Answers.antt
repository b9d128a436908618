use Rattle.measure.proofs.Adding.{none_yet, one_more}
use Rattle.measure.proofs.answer_numbers.Goals as goal

pub loop-number-init : goal.loop-number-init
loop-number-init c = none_yet _ _ _

pub loop-number-preserved : goal.loop-number-preserved
loop-number-preserved c =
    one_more _ _ _ _ c.loop-number.number _ _ _ c.loop-number.invariant c.from-sum.ensures c.answer_number-refused.ensures c.renumbered.ensures
