use Rattle.std.proofs.Common.{◌≡◌, ◌∙◌, length, ap, arith, inl}
use Rattle.rehearse.specs.Lines.{lines}
use Rattle.rehearse.specs.ToCome.{to_come}
use Rattle.rehearse.proofs.Newlines.{fewer-lines}
use Rattle.rehearse.proofs.play.Goals as goal

pub loop-i-init : goal.loop-i-init
loop-i-init g c =
    let given = c.into_iter-i-iterator.ensures.into_iter_gives in
    let all : to_come c.into_iter-i-iterator.result.iter ≡ lines c.args.script.now = ap (λ r. to_come r.iter) given ∙ ap to_come c.enumerate-i-items.ensures.source ∙ c.new.ensures in
    let few = fewer-lines c.args.script.now in
    ((tt, tt, inl (omega (arith, few, ap length all, ap (λ r. r.count) given, c.enumerate-i-items.ensures.count))), tt)
