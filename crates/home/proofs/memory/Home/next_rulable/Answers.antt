use Rattle.std.proofs.Common.{vec_items, rules, tests}
use Rattle.std.proofs.lemmas.Iterator.{YieldsList-from_slice, YieldsList-from_map}
use Rattle.std.proofs.lemmas.Iterator.Search.{find_from_yields_List}
use Rattle.home.specs.Memory.{memory_of}
use Rattle.home.specs.Rulings.{may_rule}
use Rattle.home.proofs.Rules.{name_of, next-found, next-cases, accepted-ok}
use Rattle.home.proofs.memory.Home.next_rulable.Goals as goal

-- the names in the order of submitting, and the first of them that may be ruled
pub returns : goal.returns
returns c =
    let qs = (memory_of c.args.self.now).asking in
    let xs = vec_items c.args.self.now.asking in
    let f = next-found qs xs c.find.result
    (find_from_yields_List (may_rule qs) _ _ c.find.result c.find.ensures.ran
    (YieldsList-from_map _ name_of (YieldsList-from_slice xs (search rules)) (search rules) (λ x r q k. search rules))
    (λ x b q k. search (rules, tests, accepted-ok))) in
    record { first = f; cases = next-cases qs c.find.result f }
