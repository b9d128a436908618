use Rattle.std.proofs.Common.{[], sym, ◌∙◌, arith}
use Rattle.orders.specs.Parse.{got}
use Rattle.orders.proofs.Reading.{entry-eight}
use Rattle.orders.proofs.input.entry_of.Goals as goal

pub returns : goal.returns
returns c = entry-eight c.args.bytes.now (omega arith) ∙ (λ i. got (record { key = sym c.from_be_bytes.ensures i; amount = sym c.from_be_bytes-2.ensures i }) [])
