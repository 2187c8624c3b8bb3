use Rattle.commit_queue.specs.Seats.{session_view}
use Rattle.shard_gate.proofs.AppliesAll.{can_mark}
use Rattle.shard_gate.proofs.tests.a_batch_is_read_once_it_is_applied_and_published.Goals as goal

pub mark-requires-clause-applied : goal.mark-requires-clause-applied
mark-requires-clause-applied g c = can_mark (session_view c.send-pieces.new.self.one) (session_view c.apply_all.new.h)
    c.send-pieces.ensures.admitted c.apply_all.ensures.applied
