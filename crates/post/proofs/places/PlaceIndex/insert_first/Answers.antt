use Rattle.std.proofs.Common.{◌&&◌, is_ok, vec_items, ap, ◌∙◌, rules}
use Rattle.protocol.specs.Model.{same_name}
use Rattle.post.specs.Places.{or_else, only_if}
use Rattle.names.proofs.Homes.{differ}
use Rattle.post.proofs.Homes.{homes-set}
use Rattle.post.proofs.places.PlaceIndex.insert_first.Goals as goal

pub returns : goal.returns
returns c m =
    homes-set c.index_mut.result.now c.put_first.new.places (is_ok c.put_first.result) c.args.name m c.args.place (c.put_first.ensures m) (vec_items c.grow_to.new.self.homes) c.args.name.home m.home (search rules) c.index_mut.ensures.value (differ m c.args.name)
    ∙ ap (λ p. or_else p (only_if (is_ok c.put_first.result && same_name m c.args.name) c.args.place)) (c.grow_to.ensures.same m)
