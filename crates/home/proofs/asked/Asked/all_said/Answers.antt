use Rattle.std.proofs.Common.{sym, ◌∙◌, rules}
use Rattle.home.proofs.Marks.{all_said-all, all_said-one}
use Rattle.home.proofs.asked.Asked.all_said.Goals as goal

pub returns-after-houses : goal.returns-after-houses
returns-after-houses c = c.houses.invariant.0 ∙ sym (all_said-all c.args.self.now.yes c.args.entries.now (λ k d l. c.houses.invariant.1 k d (search rules)))

pub returns-then-not-has_said : goal.returns-then-not-has_said
returns-then-not-has_said c = sym (all_said-one c.args.self.now.yes c.args.entries.now _ _ c.houses-test.true (sym c.has_said.ensures ∙ c.if-not-has_said.true))
