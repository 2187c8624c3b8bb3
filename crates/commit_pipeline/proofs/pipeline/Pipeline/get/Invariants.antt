-- Nothing was read yet: the seat knows what it knew once it had read the visible number.
use Rattle.std.proofs.Common.{◌≡◌}
use Rattle.commit_queue.specs.Seats.{session_table, session_view}
use Rattle.commit_queue.specs.Views.{but_turns}
use Rattle.commit_pipeline.proofs.pipeline.Pipeline.get.Given as goal

abbrev pub invariant-loop : goal.invariant-loop
invariant-loop g l = record {
  table : session_table l.seat ≡ session_table l.initial.seat;
  same : but_turns (session_view l.seat) ≡ but_turns (session_view l.initial.seat);
  turn : (session_view l.seat).seat.turn ≡ (session_view l.initial.seat).seat.turn;
  pieces : (session_view l.seat).pieces ≡ (session_view l.initial.seat).pieces;
}
