use Rattle.record_flow.proofs.Flows.{begins}
use Rattle.record_flow.proofs.flow.RecordFlow.new.Goals as goal

pub with_rule-requires : goal.with_rule-requires
with_rule-requires c = begins
