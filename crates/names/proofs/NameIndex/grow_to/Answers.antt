use Rattle.std.proofs.Common.{vec_items, rules}
use Rattle.names.proofs.Homes.{homes-grown}
use Rattle.names.proofs.NameIndex.grow_to.Goals as goal

pub returns-in_ok-resize_with-clause-same : goal.returns-in_ok-resize_with-clause-same
returns-in_ok-resize_with-clause-same c m = homes-grown _ (λ f s g h. search rules) (vec_items c.args.self.now.homes) _ _ _ c.in_ok-resize_with.ensures.items (search rules) m.home m
