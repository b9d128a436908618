use Rattle.std.proofs.Common.{◌∙◌, arith}
use Rattle.protocol.specs.House.{Held}
use Rattle.orders.proofs.Lengths.{sized, length-reads, length-writes}
use Rattle.entries.specs.Named.{named_of}
use Rattle.entries.proofs.named.NamedOrder.record_len.Goals as goal

pub returns-clause-held : goal.returns-clause-held
returns-clause-held c = omega (arith, c.encoded_len.ensures ∙ sized (Held (named_of c.args.self.now)))

pub returns-clause-few : goal.returns-clause-few
returns-clause-few c =
    let s = c.args.self.now.order in
    omega (arith, c.encoded_len.ensures ∙ sized (Held (named_of c.args.self.now)), length-reads s, length-writes s)
