use Rattle.std.proofs.Common.{◌≡◌, ◌-◌, unwrap_or, length, take, drop, refl, sym, ap, ◌∙◌, rules, tests}
use Rattle.std.specs.List.{position}
use Rattle.std.proofs.lemmas.Iterator.{YieldsList-from_slice}
use Rattle.std.proofs.lemmas.Iterator.Search.{position_from_yields_List}
use Rattle.script.proofs.Splitting.{is_space, in_word, no_word, word_here}
use Rattle.script.proofs.words.Words.word.Goals as goal

pub returns-in_err-start : goal.returns-in_err-start
returns-in_err-start c =
    let bs = c.args.self.now.rest.now in
    let start : c.position.result ≡ position in_word bs = position_from_yields_List in_word _ _ _ c.position.ensures.ran (YieldsList-from_slice bs cc) (λ x b q k. search (rules, tests)) in
    rw c.from_residual.ensures (no_word bs (sym start ∙ c.in_err-start.was))

pub returns : goal.returns
returns c =
    let bs = c.args.self.now.rest.now in
    let rest = take (length bs - c.in_ok-start.start) (drop c.in_ok-start.start bs) in
    let start : c.position.result ≡ position in_word bs = position_from_yields_List in_word _ _ _ c.position.ensures.ran (YieldsList-from_slice bs cc) (λ x b q k. search (rules, tests)) in
    let end : c.position-2.result ≡ position is_space rest = position_from_yields_List is_space _ _ _ c.position-2.ensures.ran (YieldsList-from_slice rest c.iter-2.ensures.rest) (λ x b q k. search (rules, tests)) in
    let here = word_here bs rest c.in_ok-start.start c.unwrap_or-end.result (sym start ∙ c.in_ok-start.was) refl (c.unwrap_or-end.ensures ∙ ap (λ o. unwrap_or o (length rest)) end) in
    search (rules, here)
