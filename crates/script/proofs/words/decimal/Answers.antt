use Rattle.std.proofs.Common.{◌≡◌, ◌+◌, ◌-◌, ◌*◌, ◌<◌, length, get_or, drop, sym, ap, ◌∙◌, arith}
use Rattle.std.proofs.lemmas.Bool.{eqb-false}
use Rattle.script.proofs.Digits.{digit-more, digit-none, too_large, digits-end, some_word}
use Rattle.script.specs.Words.{decimal_from}
use Rattle.script.proofs.words.decimal.Goals as goal

pub returns-then-not-is_ascii_digit : goal.returns-then-not-is_ascii_digit
returns-then-not-is_ascii_digit c =
    let some : 0 < length c.args.word.now = omega arith in
    sym (some_word c.args.word.now some ∙ sym c.loop-b.invariant.1 ∙ digit-none c.loop-b.value c.args.word.now c.loop-b.b-index c.loop-b-test.true (sym c.if-not-is_ascii_digit.ensures.value))

pub returns-in_err-checked_mul : goal.returns-in_err-checked_mul
returns-in_err-checked_mul c =
    let some : 0 < length c.args.word.now = omega arith in
    let large : 4294967295 < c.loop-b.value * 10 + (get_or c.args.word.now c.loop-b.b-index 0 - 48) = omega (arith, c.in_err-checked_mul.ensures) in
    c.from_residual.ensures ∙ sym (some_word c.args.word.now some ∙ sym c.loop-b.invariant.1 ∙ digit-more c.loop-b.value c.args.word.now c.loop-b.b-index c.loop-b-test.true (sym c.if-not-is_ascii_digit.ensures.value) ∙ too_large _ _ large)

pub returns-in_err-value : goal.returns-in_err-value
returns-in_err-value c =
    let some : 0 < length c.args.word.now = omega arith in
    let large : 4294967295 < c.loop-b.value * 10 + (get_or c.args.word.now c.loop-b.b-index 0 - 48) = omega (arith, c.in_err-value.ensures, c.in_ok-checked_mul.ensures) in
    c.from_residual-in_err-value.ensures ∙ sym (some_word c.args.word.now some ∙ sym c.loop-b.invariant.1 ∙ digit-more c.loop-b.value c.args.word.now c.loop-b.b-index c.loop-b-test.true (sym c.if-not-is_ascii_digit.ensures.value) ∙ too_large _ _ large)

pub loop-b-preserved : goal.loop-b-preserved
loop-b-preserved c =
    let same : c.in_ok-value.value ≡ c.loop-b.value * 10 + (get_or c.args.word.now c.loop-b.b-index 0 - 48) = omega (arith, c.in_ok-value.ensures, c.in_ok-checked_mul.ensures) in
    (omega (arith, c.in_ok-value.ensures), ap (λ v. decimal_from v (drop (c.loop-b.b-index + 1) c.args.word.now)) same ∙ sym (digit-more c.loop-b.value c.args.word.now c.loop-b.b-index c.loop-b-test.true (sym c.if-not-is_ascii_digit.ensures.value)) ∙ c.loop-b.invariant.1)

pub returns : goal.returns
returns c =
    let some : 0 < length c.args.word.now = omega (arith, eqb-false (length c.args.word.now) 0 (sym c.if-is_empty.ensures)) in
    sym (some_word c.args.word.now some ∙ sym c.loop-b.invariant.1 ∙ digits-end c.loop-b.value c.args.word.now c.loop-b.b-index c.loop-b-test.false c.loop-b.invariant.0)
