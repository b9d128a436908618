use Rattle.std.proofs.Common.{[], sym, ap, ◌∙◌, arith}
use Rattle.orders.specs.Answers.{failed}
use Rattle.orders.specs.File.{start, next}
use Rattle.scan.proofs.whole_end.Goals as goal

pub loop-next-init : goal.loop-next-init
loop-next-init c = (omega arith, ([], start))

pub loop-next-preserved : goal.loop-next-preserved
loop-next-preserved c = (c.in-Ok.ensures.next.1, (_, next _ _ _ _ c.loop-next.invariant.1.1 (sym c.in-Ok.ensures.value)))

pub returns-in-Err-Refused : goal.returns-in-Err-Refused
returns-in-Err-Refused c = (c.loop-next.invariant.1.0, _, c.loop-next.invariant.1.1, sym c.in-Err-Refused.ensures.value ∙ ap failed c.in-Err-Refused.field-0-is)
