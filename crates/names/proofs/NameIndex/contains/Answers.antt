use Rattle.std.proofs.Common.{vec_items, rules}
use Rattle.names.proofs.Homes.{found}
use Rattle.names.proofs.NameIndex.contains.Goals as goal

pub returns : goal.returns
returns c = found (vec_items c.args.self.now.homes) c.args.name c.get.result c.is_some_and.result (search rules) (search rules)
