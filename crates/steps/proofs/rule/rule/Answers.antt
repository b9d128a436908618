use Rattle.entries.specs.Named.{named_of}
use Rattle.steps.proofs.Driving.{rule-backed}
use Rattle.steps.proofs.rule.rule.Goals as goal

pub note_and_commit-requires-clause-backed : goal.note_and_commit-requires-clause-backed
note_and_commit-requires-clause-backed g c = rule-backed _ _ _ (named_of c.in-Ok.order) c.requires
