use Rattle.shard_gate.proofs.Laws.{can_mark}
use Rattle.commit_queue.specs.Seats.{session_view}
use Rattle.ring_bench.proofs.worker.Worker.turn.Goals as goal

pub mark-requires-clause-applied : goal.mark-requires-clause-applied
mark-requires-clause-applied g c = can_mark (session_view c.place_next-placing.new.seat) (session_view c.apply_all.new.h)
    (c.in-Adopted.ensures.placed.0) c.apply_all.ensures.applied
