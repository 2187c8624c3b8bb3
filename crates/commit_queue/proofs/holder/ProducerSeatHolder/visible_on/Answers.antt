use Rattle.commit_queue.proofs.GoesOn.{sees_goes_on}
use Rattle.commit_queue.proofs.Stands.{producer_goes_on}
use Rattle.commit_queue.proofs.holder.ProducerSeatHolder.visible_on.Goals as goal

pub invariant_of-self : goal.invariant_of-self
invariant_of-self c = let s = c.args.self.now in let t = c.visible_at.ensures in
    record {
      stands = producer_goes_on s.seat.id _ s.seat.me _ s.head s.end s.turn s.stands t.same.0.1 t.same.1
          (sees_goes_on s.seat.me.0 _ _ t.seen);
    }
