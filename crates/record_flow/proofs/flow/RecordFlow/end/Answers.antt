use Rattle.record_flow.proofs.Flows.{ends}
use Rattle.record_flow.proofs.OnTheWay.{learns}
use Rattle.record_flow.proofs.flow.RecordFlow.end.Goals as goal

pub absorb-requires-clause-rule : goal.absorb-requires-clause-rule
absorb-requires-clause-rule g c = ends _ _ _ _ c.args.pass.now.pops c.args.sends.pushes

pub len_as-requires-clause-rule : goal.len_as-requires-clause-rule
len_as-requires-clause-rule g c = learns _ _
