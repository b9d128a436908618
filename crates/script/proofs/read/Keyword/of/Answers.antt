use Rattle.std.proofs.Common.{sym, ap, arith, rules}
use Rattle.std.specs.Prelude.{codes}
use Rattle.std.proofs.lemmas.Slice.Eq.{text_from_reads}
use Rattle.script.specs.Line.{keyword}
use Rattle.script.proofs.read.Keyword.of.Goals as goal

pub returns-in-houses : goal.returns-in-houses
returns-in-houses c = sym (ap keyword (text_from_reads c.args.word.now (codes "houses") (omega arith) (search rules)))

pub returns-in-submit : goal.returns-in-submit
returns-in-submit c = sym (ap keyword (text_from_reads c.args.word.now (codes "submit") (omega arith) (search rules)))

pub returns-in-giveup : goal.returns-in-giveup
returns-in-giveup c = sym (ap keyword (text_from_reads c.args.word.now (codes "giveup") (omega arith) (search rules)))

pub returns-in-answer : goal.returns-in-answer
returns-in-answer c = sym (ap keyword (text_from_reads c.args.word.now (codes "answer") (omega arith) (search rules)))
