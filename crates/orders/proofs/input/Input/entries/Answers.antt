use Rattle.std.proofs.Common.{◌≡◌, ◌*◌, ◌/◌, length, take, sym, ◌∙◌, ap, arith, take_all}
use Rattle.orders.specs.Parse.{got}
use Rattle.orders.proofs.Reading.{entries-short}
use Rattle.orders.proofs.Pieces.{pieces-are, entries_none, entries-more, entries_end}
use Rattle.orders.proofs.input.Input.entries.Goals as goal

pub returns-in_default : goal.returns-in_default
returns-in_default c = sym (entries-short _ c.args.self.now.rest.now c.in_default.ensures.cases)

pub loop-i-init : goal.loop-i-init
loop-i-init c = entries_none _

pub loop-i-preserved : goal.loop-i-preserved
loop-i-preserved c =
    let n = length c.args.all.now in
    let long : length c.in-Some.front.now ≡ 8 * n = c.in-Some.ensures.cases.3 in
    let many : length c.as_chunks.result.0.now ≡ length c.in-Some.front.now / 8 = c.as_chunks.ensures.front_len in
    let are = pieces-are c.args.self.now.rest.now c.in-Some.front.now c.as_chunks.result.0.now n c.in-Some.ensures.cases.1 long c.as_chunks.ensures.front in
    entries-more _ c.as_chunks.result.0.now n c.loop-i.i c.loop-i.all c.entry_of.result are (omega (arith, many, long)) (omega (arith, many, long)) c.loop-i.invariant c.entry_of.ensures

pub returns : goal.returns
returns c =
    let n = length c.args.all.now in
    let long : length c.in-Some.front.now ≡ 8 * n = c.in-Some.ensures.cases.3 in
    let many : length c.as_chunks.result.0.now ≡ length c.in-Some.front.now / 8 = c.as_chunks.ensures.front_len in
    let all : c.loop-i.i ≡ n = omega (arith, many, long) in
    let whole : take n c.loop-i.all ≡ c.loop-i.all = take_all n c.loop-i.all (omega arith) in
    ap (λ es. got es c.in-Some.rest.now) (sym whole) ∙ entries_end c.args.self.now.rest.now c.in-Some.rest.now n c.loop-i.i c.loop-i.all all c.in-Some.ensures.cases.0 c.in-Some.ensures.cases.2 c.loop-i.invariant
