use Rattle.std.proofs.Common.{◌≡◌}
use Rattle.commit_queue.specs.Seats.{producer_table, producer_view, AreNewSessions}
use Rattle.commit_queue.proofs.pipe_table.PipeTable.seat_sessions.Given as goal

abbrev pub invariant-loop : goal.invariant-loop
invariant-loop l = record {
  table : producer_table l.p ≡ producer_table l.initial.p;
  view : producer_view l.p ≡ producer_view l.initial.p;
  new : AreNewSessions l.self (producer_view l.initial.p).base (producer_view l.initial.p).opening l.counter l.seats;
}
