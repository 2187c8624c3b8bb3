-- The acked word has followed the step.
use Rattle.std.proofs.Common.{rules}
use Rattle.commit_pipeline.proofs.Flushing.{acks_since, acks_again}
use Rattle.commit_pipeline.proofs.flush_side.FlushSide.lead.Goals as goal

pub loop-preserved-then-waits-eq0 : goal.loop-preserved-then-waits-eq0
loop-preserved-then-waits-eq0 g c = record {
  seat = search rules;
  own = search rules;
  told = search rules;
  dead_parts = search rules;
  dead = search rules;
  acks = acks_again c.args.self.now c.loop.self c.step_for.ensures.steps.mid c.step_for.new.self c.loop.invariant.acks
      c.step_for.ensures.steps.moves.seat c.step_for.ensures.steps.acks;
}

pub loop-preserved-else-waits-eq0 : goal.loop-preserved-else-waits-eq0
loop-preserved-else-waits-eq0 g c = record {
  seat = search rules;
  own = search rules;
  told = search rules;
  dead_parts = search rules;
  dead = search rules;
  acks = acks_again c.args.self.now c.loop.self c.step_for.ensures.steps.mid c.step_for.new.self c.loop.invariant.acks
      c.step_for.ensures.steps.moves.seat c.step_for.ensures.steps.acks;
}

pub loop-preserved : goal.loop-preserved
loop-preserved g c = record {
  seat = search rules;
  own = search rules;
  told = search rules;
  dead_parts = search rules;
  dead = search rules;
  acks = acks_again c.args.self.now c.loop.self c.step_for.ensures.steps.mid c.step_for.new.self c.loop.invariant.acks
      c.step_for.ensures.steps.moves.seat c.step_for.ensures.steps.acks;
}

pub loop-init : goal.loop-init
loop-init g c = record {
  seat = search rules;
  own = search rules;
  told = search rules;
  dead_parts = search rules;
  dead = search rules;
  acks = acks_since c.args.self.now c.drive.ensures.drives.mid c.drive.new.self c.drive.ensures.drives.moves.seat c.drive.ensures.drives.acks;
}

pub returns-in_err-step_for-clause-acks : goal.returns-in_err-step_for-clause-acks
returns-in_err-step_for-clause-acks g c = acks_again c.args.self.now c.loop.self c.step_for.ensures.steps.mid c.step_for.new.self c.loop.invariant.acks
    c.step_for.ensures.steps.moves.seat c.step_for.ensures.steps.acks

pub returns-then-acked-index-clause-acks : goal.returns-then-acked-index-clause-acks
returns-then-acked-index-clause-acks g c = c.loop.invariant.acks
