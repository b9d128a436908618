use Rattle.std.proofs.Common.{vec_items, ◌||◌, ap, ◌∙◌, rules}
use Rattle.protocol.specs.Model.{same_name}
use Rattle.names.proofs.Homes.{homes-set, differ}
use Rattle.names.proofs.NameIndex.insert.Goals as goal

pub returns : goal.returns
returns c m =
    homes-set c.index_mut.result.now c.insert.new.self c.args.name m (c.in_ok-insert.ensures.updates.0 m) (vec_items c.grow_to.new.self.homes) c.args.name.home m.home (search rules) c.index_mut.ensures.value (differ m c.args.name)
    ∙ ap (λ b. same_name m c.args.name || b) (c.grow_to.ensures.same m)
