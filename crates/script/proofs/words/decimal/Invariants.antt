use Rattle.std.proofs.Common.{◌≡◌, ◌≤◌, drop}
use Rattle.script.specs.Words.{decimal_from}
use Rattle.script.proofs.words.decimal.Given as goal

abbrev pub invariant-loop-b : goal.invariant-loop-b
invariant-loop-b l = (l.value ≤ 4294967295) × (decimal_from l.value (drop l.b-index l.word) ≡ decimal_from 0 l.word)
