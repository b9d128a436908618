use Rattle.std.proofs.Common.{vec_items, rules}
use Rattle.post.specs.Places.{place_in}
use Rattle.post.proofs.Grown.{as-before}
use Rattle.post.proofs.places.PlaceIndex.grow_to.Goals as goal

pub returns-in_ok-resize_with-clause-same : goal.returns-in_ok-resize_with-clause-same
returns-in_ok-resize_with-clause-same c n =
    as-before (λ x. place_in x n) _ (λ f s g h. search rules) (vec_items c.args.self.now.homes) _ _ _ c.in_ok-resize_with.ensures.items (search rules) n.home
