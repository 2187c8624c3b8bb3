use Rattle.commit_queue.proofs.GoesOn.{acked_goes_on}
use Rattle.commit_queue.proofs.Stands.{session_goes_on}
use Rattle.commit_queue.proofs.pipe_table.PipeTable.acked.Goals as goal

pub invariant_of-s : goal.invariant_of-s
invariant_of-s c = let s = c.args.s.now in let t = c.acked_at.ensures in
    record { stands = session_goes_on s.seat.me _ s.index s.end s.turn s.stands t.same.1 (acked_goes_on s.seat.me.0 _ _ t.seen) }
