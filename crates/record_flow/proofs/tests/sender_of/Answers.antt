use Rattle.std.proofs.Common.{ap, sym, length}
use Rattle.record_flow.specs.declared.rule.FlowView.{FlowView}
use Rattle.record_flow.specs.Passes.{send_view}
use Rattle.record_flow.proofs.ComesNext.{first_is_next}
use Rattle.record_flow.proofs.tests.sender_of.Goals as goal

pub invariant_of-result : goal.invariant_of-result
invariant_of-result c = record { next_is = first_is_next _ (send_view c.args.pass) c.requires; count = ap (λ (v : FlowView). length v.sent) (sym c.requires) }
