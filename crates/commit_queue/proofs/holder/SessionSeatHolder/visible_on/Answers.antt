use Rattle.commit_queue.proofs.GoesOn.{sees_goes_on}
use Rattle.commit_queue.proofs.Stands.{session_goes_on}
use Rattle.commit_queue.proofs.holder.SessionSeatHolder.visible_on.Goals as goal

pub invariant_of-self : goal.invariant_of-self
invariant_of-self c = let s = c.args.self.now in let t = c.visible_at.ensures in
    record { stands = session_goes_on s.seat.me _ s.index s.end s.turn s.stands t.same.1 (sees_goes_on s.seat.me.0 _ _ t.seen) }
