-- The batch is not acked yet: the seat has seen no less, and the shares are what they were.
use Rattle.std.proofs.Common.{◌≡◌}
use Rattle.commit_queue.specs.Seats.{session_table, session_view}
use Rattle.commit_queue.specs.Shown.{session_shown}
use Rattle.commit_pipeline.specs.Numbering.{SeatGoesOn}
use Rattle.commit_pipeline.proofs.pipeline.Pipeline.wait_acked.Given as goal

abbrev pub invariant-loop : goal.invariant-loop
invariant-loop g l = record {
  table : session_table l.desk.seat ≡ session_table l.initial.desk.seat;
  on : SeatGoesOn (session_shown l.initial.desk.seat) (session_shown l.desk.seat);
  held : (session_view l.desk.seat).seat.held ≡ (session_view l.initial.desk.seat).seat.held;
  own : l.desk.own ≡ l.initial.desk.own;
  told : l.desk.told ≡ l.initial.desk.told;
  dead_parts : l.desk.dead.parts ≡ l.initial.desk.dead.parts;
  dead : l.desk.dead.amount ≡ l.initial.desk.dead.amount;
}
