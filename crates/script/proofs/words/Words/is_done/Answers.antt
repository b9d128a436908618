use Rattle.std.proofs.Common.{◌∙◌, rules, tests}
use Rattle.std.proofs.lemmas.Iterator.{YieldsList-from_slice}
use Rattle.std.proofs.lemmas.Iterator.Search.{all_from_yields_List}
use Rattle.script.proofs.Splitting.{is_space, all-spaces}
use Rattle.script.proofs.words.Words.is_done.Goals as goal

pub returns : goal.returns
returns c =
    let bs = c.args.self.now.rest.now in
    all_from_yields_List is_space _ _ _ c.all.ensures.ran (YieldsList-from_slice bs cc) (λ x b q k. search (rules, tests)) ∙ all-spaces bs
