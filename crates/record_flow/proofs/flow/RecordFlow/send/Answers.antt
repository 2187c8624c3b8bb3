use Rattle.record_flow.specs.Passes.{send_view}
use Rattle.record_flow.proofs.Flows.{sends, still_pushes}
use Rattle.record_flow.proofs.flow.RecordFlow.send.Goals as goal

pub push_as-requires-clause-rule : goal.push_as-requires-clause-rule
push_as-requires-clause-rule g c = λ n. sends n _ _ _ c.args.pass.now.pushes c.requires.next

pub invariant_of-pass-clause-pushes : goal.invariant_of-pass-clause-pushes
invariant_of-pass-clause-pushes g c = still_pushes _ _ (send_view c.args.pass.now) c.push_as.new.pass.me.view.client c.args.node c.push_as.result c.args.pass.now.pushes c.requires.next c.push_as.ensures.rule
