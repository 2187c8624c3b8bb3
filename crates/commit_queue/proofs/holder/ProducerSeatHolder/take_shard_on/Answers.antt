use Rattle.std.proofs.Common.{ap, sym, ◌∙◌, Some}
use Rattle.commit_queue.specs.declared.view.View.{View}
use Rattle.commit_queue.specs.Views.{but_turns}
use Rattle.commit_queue.proofs.Stands.{carries_on, carries_shard, none_carried, producer_turns}
use Rattle.commit_queue.proofs.holder.ProducerSeatHolder.take_shard_on.Goals as goal

pub invariant_of-self : goal.invariant_of-self
invariant_of-self c = let s = c.args.self.now in let t = c.in_err-taken.ensures in record {
  stands = producer_turns s.seat.id _ s.seat.me _ s.head s.end s.turn s.turn s.stands t.same.1 (ap but_turns t.taken)
      (carries_on s.seat.me _ s.turn s.stands.carries (t.out ∙ sym (none_carried s.seat.me s.turn s.stands.carries c.requires.no_turn))
      (ap (λ (v : View). v.seat.turn) t.taken));
}

pub invariant_of-self-2 : goal.invariant_of-self-2
invariant_of-self-2 c = let s = c.args.self.now in let t = c.in_ok-taken.ensures in record {
  stands = producer_turns s.seat.id _ s.seat.me _ s.head s.end s.turn (Some c.args.shard) s.stands t.same.1 (ap but_turns t.taken.view)
      (carries_shard _ c.args.shard c.requires.small t.out (ap (λ (v : View). v.seat.turn) t.taken.view));
}
