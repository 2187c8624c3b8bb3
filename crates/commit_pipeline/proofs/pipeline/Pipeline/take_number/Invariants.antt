-- No number is taken yet: the seat has seen no less, and the shares are what they were.
use Rattle.std.proofs.Common.{◌≡◌, None}
use Rattle.commit_queue.specs.Seats.{session_table, session_view}
use Rattle.commit_queue.specs.Shown.{session_shown}
use Rattle.commit_pipeline.specs.Numbering.{SeatGoesOn}
use Rattle.commit_pipeline.proofs.pipeline.Pipeline.take_number.Given as goal

abbrev pub invariant-loop : goal.invariant-loop
invariant-loop g l = record {
  batch : l.batch ≡ l.initial.batch;
  table : session_table l.desk.seat ≡ session_table l.initial.desk.seat;
  on : SeatGoesOn (session_shown l.initial.desk.seat) (session_shown l.desk.seat);
  held : (session_view l.desk.seat).seat.held ≡ (session_view l.initial.desk.seat).seat.held;
  own_parts : l.desk.own.parts ≡ l.initial.desk.own.parts;
  own : l.desk.own.amount ≡ l.initial.desk.own.amount;
  dead : l.desk.dead ≡ l.initial.desk.dead;
  told : l.desk.told ≡ l.initial.desk.told;
  node : l.node ≡ None;
}
