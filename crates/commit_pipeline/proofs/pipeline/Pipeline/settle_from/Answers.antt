-- Each shard leaves the seat as it was, for whoever looks at it from here.
use Rattle.std.proofs.Common.{refl, sym, ap, ◌∙◌}
use Rattle.commit_queue.specs.Shown.{SeatShown}
use Rattle.commit_pipeline.proofs.pipeline.Pipeline.settle_from.Goals as goal

pub loop-step-init : goal.loop-step-init
loop-step-init g c = record { table = refl; shown = refl }

pub try_settle-requires-clause-table : goal.try_settle-requires-clause-table
try_settle-requires-clause-table g c =
    c.loop-step.invariant.table ∙ c.session.invariant.of_table ∙ sym c.args.self.now.named ∙ sym c.over-shards.ensures

pub try_settle-requires-clause-no_turn : goal.try_settle-requires-clause-no_turn
try_settle-requires-clause-no_turn g c = ap (λ (s : SeatShown). s.turn) c.loop-step.invariant.shown ∙ c.session.invariant.idle.1

pub loop-step-preserved : goal.loop-step-preserved
loop-step-preserved g c = record {
  table = c.try_settle.ensures.same ∙ c.loop-step.invariant.table;
  shown = c.try_settle.ensures.shown ∙ c.loop-step.invariant.shown;
}
