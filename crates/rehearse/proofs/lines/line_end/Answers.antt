use Rattle.std.proofs.Common.{◌≡◌, ◌+◌, ◌-◌, unwrap_or, length, take, drop, ap, ◌∙◌, rules, tests}
use Rattle.std.specs.List.{position}
use Rattle.std.proofs.lemmas.List.{take_rest}
use Rattle.std.proofs.lemmas.Iterator.{YieldsList-from_slice}
use Rattle.std.proofs.lemmas.Iterator.Search.{position_from_yields_List}
use Rattle.rehearse.specs.Lines.{line_length}
use Rattle.rehearse.proofs.Newlines.{is_newline, first-newline}
use Rattle.rehearse.proofs.lines.line_end.Goals as goal

pub returns-clause-value : goal.returns-clause-value
returns-clause-value c =
    let bs = drop c.args.at c.args.script.now in
    let rest = take (length c.args.script.now - c.args.at) bs in
    let place : c.position-length.result ≡ position is_newline rest = position_from_yields_List is_newline _ _ _ c.position-length.ensures.ran (YieldsList-from_slice rest c.iter.ensures.rest) (λ x b q k. search (rules, tests)) in
    let found : c.unwrap_or.result ≡ line_length rest = c.unwrap_or.ensures ∙ ap (λ o. unwrap_or o (length rest)) place ∙ first-newline rest in
    ap (λ n. c.args.at + n) (found ∙ ap line_length (take_rest c.args.script.now c.args.at))
