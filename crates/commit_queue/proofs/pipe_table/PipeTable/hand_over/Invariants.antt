use Rattle.std.proofs.Common.{◌≡◌}
use Rattle.commit_queue.specs.Seats.{producer_table, producer_view}
use Rattle.commit_queue.proofs.pipe_table.PipeTable.hand_over.Given as goal

-- nothing has changed yet
abbrev pub invariant-loop : goal.invariant-loop
invariant-loop g l = record {
  table : producer_table l.p ≡ producer_table l.initial.p;
  view : producer_view l.p ≡ producer_view l.initial.p;
}
