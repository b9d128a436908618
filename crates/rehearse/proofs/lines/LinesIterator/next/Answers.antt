use Rattle.std.proofs.Common.{length, ap, arith}
use Rattle.std.proofs.lemmas.List.{drop_all}
use Rattle.rehearse.specs.Lines.{lines}
use Rattle.rehearse.proofs.Newlines.{next-line}
use Rattle.rehearse.proofs.lines.LinesIterator.next.Goals as goal

pub returns-then-self-clause-steps : goal.returns-then-self-clause-steps
unfolding lines
returns-then-self-clause-steps c =
    let none = ap lines (drop_all c.args.self.now.at c.args.self.now.script.now c.if-self.true) in
    (none, none)

pub returns-clause-steps : goal.returns-clause-steps
returns-clause-steps c = next-line c.args.self.now.script.now c.args.self.now.at c.line_end-end.result (omega (arith, c.if-self.false)) c.line_end-end.ensures.value

pub returns-clause-goes : goal.returns-clause-goes
returns-clause-goes c =
    let more = next-line c.args.self.now.script.now c.args.self.now.at c.line_end-end.result (omega (arith, c.if-self.false)) c.line_end-end.ensures.value in
    record { on = λ _. (tt, tt, omega (arith, ap length more)); keeps = tt; rests = λ _. tt }
