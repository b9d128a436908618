use Rattle.std.proofs.Common.{vec_items, rules}
use Rattle.post.specs.Yeses.{if_index}
use Rattle.post.proofs.Grown.{as-before}
use Rattle.post.proofs.yeses.Yeses.grow_to.Goals as goal

pub returns-in_ok-resize_with-clause-same : goal.returns-in_ok-resize_with-clause-same
returns-in_ok-resize_with-clause-same c j n =
    as-before (λ x. if_index x n) _ (λ f s g h. search rules) (vec_items c.args.self.now.houses) _ _ _ c.in_ok-resize_with.ensures.items (search rules) j
