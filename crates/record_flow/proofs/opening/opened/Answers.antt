use Rattle.record_flow.proofs.Flows.{splits}
use Rattle.record_flow.proofs.opening.opened.Goals as goal

pub another-pops-requires-clause-rule : goal.another-pops-requires-clause-rule
another-pops-requires-clause-rule g c = splits _ _ _ c.requires.opening
