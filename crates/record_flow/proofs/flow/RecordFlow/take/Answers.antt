use Rattle.record_flow.specs.Passes.{take_view}
use Rattle.record_flow.proofs.Flows.{takes}
use Rattle.record_flow.proofs.OnTheWay.{learns, none_left}
use Rattle.record_flow.proofs.flow.RecordFlow.take.Goals as goal

pub pop_as-requires-clause-rule : goal.pop_as-requires-clause-rule
pop_as-requires-clause-rule g c = (takes _ _ c.args.pass.now.pops, learns _ _)

pub returns-clause-all : goal.returns-clause-all
returns-clause-all g c = none_left _ _ (take_view c.args.pass.now) c.pop_as.result c.pop_as.ensures.rule
