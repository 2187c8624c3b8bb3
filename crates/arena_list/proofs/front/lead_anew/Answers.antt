-- One lead more is made anew.
use Rattle.std.proofs.Common.{ap, ◌∙◌, drop, arith}
use Rattle.arena_list.specs.Leads.{lead_of}
use Rattle.arena_list.proofs.Lowered.{anew_step}
use Rattle.arena_list.proofs.front.lead_anew.Goals as goal

pub loop-place-preserved : goal.loop-place-preserved
loop-place-preserved c =
    anew_step c.args.nodes.now c.loop-place.nodes c.args.shared c.loop-place.place c.index-nodes-place.result c.lead-node.result c.loop-place.invariant
    (omega (arith, c.loop-place-test.true, c.loop-place.invariant.kept.len))
    (c.lead-node.ensures.number ∙ ap lead_of (c.rest_of.ensures ∙ ap (drop c.args.shared) c.key.ensures))
