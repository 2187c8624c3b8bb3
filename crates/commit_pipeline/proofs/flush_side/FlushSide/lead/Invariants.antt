-- The batch is not synced yet: the desk is what it was, and the acked word was raised to what is synced.
use Rattle.std.proofs.Common.{◌≡◌}
use Rattle.commit_pipeline.specs.Sides.{HasAckedSynced}
use Rattle.commit_pipeline.proofs.flush_side.FlushSide.lead.Given as goal

abbrev pub invariant-loop : goal.invariant-loop
invariant-loop g l = record {
  seat : l.desk.seat ≡ l.initial.desk.seat;
  own : l.desk.own ≡ l.initial.desk.own;
  told : l.desk.told ≡ l.initial.desk.told;
  dead_parts : l.desk.dead.parts ≡ l.initial.desk.dead.parts;
  dead : l.desk.dead.amount ≡ l.initial.desk.dead.amount;
  acks : HasAckedSynced l.fn.self l.self;
}
