use Rattle.std.proofs.Common.{rules}
use Rattle.post.proofs.Homes.{placed}
use Rattle.post.proofs.places.put_first.Goals as goal

pub returns : goal.returns
returns c m =
    placed c.args.places.now _ c.args.name m c.args.place c.or_insert.result.now (search rules) (let u = (c.in_ok-places.ensures.update.0 c.or_insert.result.now).0 m in search rules)
