use Rattle.std.proofs.Common.{true, false, refl, ◌∙◌}
use Rattle.home.proofs.Rules.{said-both}
use Rattle.home.proofs.asked.Asked.all_yes.Goals as goal

pub returns-then-all_said : goal.returns-then-all_said
returns-then-all_said c = said-both c.args.self.now _ _ true _ c.reads.ensures c.writes.ensures c.if-all_said.ensures c.all_said-then-all_said.ensures

pub returns-else-all_said : goal.returns-else-all_said
returns-else-all_said c = c.if-all_said.false ∙ said-both c.args.self.now _ _ false _ c.reads.ensures refl c.if-all_said.ensures refl
