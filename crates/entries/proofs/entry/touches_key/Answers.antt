use Rattle.std.proofs.Common.{◌≡◌, ◌*◌, ◌/◌, true, false, ◌||◌, length, drop, sym, ap, ◌∙◌, rules, tests}
use Rattle.std.specs.Simd.{first_chunks}
use Rattle.std.specs.List.{list_any}
use Rattle.std.proofs.lemmas.Iterator.{YieldsList-from_slice}
use Rattle.std.proofs.lemmas.Iterator.Search.{any_from_yields_List}
use Rattle.orders.specs.Order.{touches}
use Rattle.entries.proofs.Fours.{by-fours}
use Rattle.entries.proofs.entry.touches_key.Goals as goal

pub returns-then-any : goal.returns-then-any
returns-then-any c =
    let es = c.args.entries.now in
    let n = length es / 4 in
    let fours : c.any.result ≡ list_any (touches c.args.key) c.as_chunks.result.0.now = any_from_yields_List (touches c.args.key) _ _ _ c.any.ensures.ran (YieldsList-from_slice c.as_chunks.result.0.now c.iter.ensures.rest) (λ x b q k. search (rules, tests)) in
    let here : list_any (touches c.args.key) (first_chunks 4 n es) ≡ true = sym (fours ∙ ap (list_any (touches c.args.key)) c.as_chunks.ensures.front) ∙ c.if-any.true in
    c.if-any.true ∙ sym (by-fours c.args.key n es ∙ ap (λ b. b || touches c.args.key (drop (n * 4) es)) here)

pub returns-else-any : goal.returns-else-any
returns-else-any c =
    let es = c.args.entries.now in
    let n = length es / 4 in
    let fours : c.any.result ≡ list_any (touches c.args.key) c.as_chunks.result.0.now = any_from_yields_List (touches c.args.key) _ _ _ c.any.ensures.ran (YieldsList-from_slice c.as_chunks.result.0.now c.iter.ensures.rest) (λ x b q k. search (rules, tests)) in
    let none : list_any (touches c.args.key) (first_chunks 4 n es) ≡ false = sym (fours ∙ ap (list_any (touches c.args.key)) c.as_chunks.ensures.front) ∙ c.if-any.false in
    c.one_touches_key-else-any.ensures ∙ ap (touches c.args.key) c.as_chunks.ensures.back ∙ sym (by-fours c.args.key n es ∙ ap (λ b. b || touches c.args.key (drop (n * 4) es)) none)
