use Rattle.std.proofs.Common.{vec_items, rules}
use Rattle.post.specs.Places.{place_of}
use Rattle.post.proofs.Firsts.{indexed-more}
use Rattle.post.proofs.holds.Holds.push.Goals as goal

pub invariant_of-self-2 : goal.invariant_of-self-2
invariant_of-self-2 c = record {
  indexed = λ n. indexed-more n (vec_items c.args.self.now.orders) (vec_items c.push_reserved.new.self) c.args.order c.len.result (place_of c.args.self.now.first n) (place_of c.insert_first.new.self n) (search rules) (search rules) (c.args.self.now.indexed n) (c.in_ok-insert_first.ensures n);
}
