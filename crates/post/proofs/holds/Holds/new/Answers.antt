use Rattle.std.proofs.Common.{vec_items}
use Rattle.post.specs.Places.{place_of}
use Rattle.post.proofs.Firsts.{indexed-none}
use Rattle.post.proofs.holds.Holds.new.Goals as goal

pub invariant_of-result : goal.invariant_of-result
invariant_of-result c = record { indexed = λ n. indexed-none n (vec_items c.new.result) (place_of c.new-2.result n) c.new.ensures.items (c.new-2.ensures n) }
