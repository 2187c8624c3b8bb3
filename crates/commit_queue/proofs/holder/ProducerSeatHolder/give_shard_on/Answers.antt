use Rattle.std.proofs.Common.{◌≡◌, Bool, true, false, None, ap, sym, subst}
use Rattle.commit_queue.specs.declared.view.View.{View}
use Rattle.commit_queue.specs.Stands.{ProducerStands}
use Rattle.commit_queue.specs.Tables.{TableSeat}
use Rattle.commit_queue.specs.Calls.{GivesBack}
use Rattle.commit_queue.specs.Views.{but_turns}
use Rattle.commit_queue.proofs.Stands.{carries_none, producer_turns, turn_ended}
use Rattle.commit_queue.proofs.holder.ProducerSeatHolder.give_shard_on.Goals as goal
use Rattle.commit_queue.proofs.holder.ProducerSeatHolder.give_shard_on.Goals.{then-applied, else-applied}

pub invariant_of-self : goal.invariant_of-self
invariant_of-self c = let s = c.args.self.now in elim c.if-applied.branch [
  | then-applied w ↦ let t = w.give_applied_at.ensures in
      let g = subst (λ (b : Bool). GivesBack s.seat.me.0 c.args.shard b) w.if-applied.true c.requires.gives in
      let view = t.ended g.index g.shard g.holds g.turn in
      let at : c.if-applied.self.1.0 ≡ w.give_applied_at.new.seat = ap (λ x. x.1.0) w.self-is in record {
        stands = subst (λ (x : TableSeat). ProducerStands x.id x.me s.head s.end None) (sym at)
            (producer_turns s.seat.id _ s.seat.me _ s.head s.end s.turn None s.stands t.same.1 (ap but_turns view)
            (carries_none _ t.home (ap (λ (v : View). v.seat.turn) view)));
      }
  | else-applied w ↦ let t = w.give_shard_at.ensures in
      let at : c.if-applied.self.1.0 ≡ w.give_shard_at.new.seat = ap (λ x. x.1.0) w.self-is in record {
        stands = subst (λ (x : TableSeat). ProducerStands x.id x.me s.head s.end None) (sym at)
            (producer_turns s.seat.id _ s.seat.me _ s.head s.end s.turn None s.stands t.same.1 (ap but_turns t.ended)
            (carries_none _ t.home (ap (λ (v : View). v.seat.turn) t.ended)));
      }
]

pub returns-clause-ended : goal.returns-clause-ended
returns-clause-ended c = let s = c.args.self.now in elim c.if-applied.branch [
  | then-applied w ↦ turn_ended s.seat.me.0 c.if-applied.self.1.0 w.give_applied_at.new.seat _ true (ap (λ x. x.1.0) w.self-is)
      w.if-applied.true w.give_applied_at.ensures.ended
  | else-applied w ↦ turn_ended s.seat.me.0 c.if-applied.self.1.0 w.give_shard_at.new.seat _ false (ap (λ x. x.1.0) w.self-is)
      w.if-applied.false w.give_shard_at.ensures.ended
]
