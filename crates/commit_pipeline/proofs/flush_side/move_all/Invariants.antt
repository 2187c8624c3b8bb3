-- The records found so far were moved, and the next one found is the journal's next.
use Rattle.std.proofs.Common.{◌≡◌}
use Rattle.record_flow.specs.Passes.{flush_queue, take_view}
use Rattle.commit_pipeline.specs.Sides.{MovesNodes}
use Rattle.commit_pipeline.specs.Ties.{IsNextTo}
use Rattle.commit_pipeline.proofs.flush_side.move_all.Given as goal

abbrev pub invariant-loop : goal.invariant-loop
invariant-loop g l = record {
  same : flush_queue l.pops ≡ flush_queue l.initial.pops;
  next : IsNextTo (take_view l.pops) l.journal.state;
  moves : MovesNodes g.D.Disk.tells g.D.Disk.view (take_view l.initial.pops) l.initial.journal (take_view l.pops) l.journal;
}
