use Rattle.std.proofs.Common.{◌≡◌, None, vec_items, ap, ◌∙◌, rules}
use Rattle.std.specs.Option.{option_map}
use Rattle.entries.specs.Named.{named_of}
use Rattle.post.specs.Places.{place_of}
use Rattle.post.proofs.Firsts.{place-within, order-there, none-there}
use Rattle.post.proofs.holds.Holds.find.Goals as goal

pub returns-in_err-place : goal.returns-in_err-place
returns-in_err-place c = let e : c.from_residual.result ≡ None = search rules in ap (option_map named_of) e ∙ none-there c.args.name (vec_items c.args.self.now.orders) _ (c.args.self.now.indexed c.args.name) (search rules)

pub index-requires : goal.index-requires
index-requires c = let h = place-within c.args.name (vec_items c.args.self.now.orders) (place_of c.args.self.now.first c.args.name) (c.args.self.now.indexed c.args.name) c.in_ok-place.place (search rules) in search rules

pub returns : goal.returns
returns c = order-there c.args.name (vec_items c.args.self.now.orders) _ (c.args.self.now.indexed c.args.name) c.in_ok-place.place c.index.result.now (search rules) c.index.ensures
