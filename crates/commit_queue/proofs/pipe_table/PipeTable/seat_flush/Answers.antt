use Rattle.std.proofs.Common.{arith, inl}
use Rattle.commit_queue.proofs.Becomes.{acts_live}
use Rattle.commit_queue.proofs.SplitsAndJoins.{seats_flush}
use Rattle.commit_queue.proofs.Stands.{producer_tells, flush_opens}
use Rattle.commit_queue.proofs.pipe_table.PipeTable.seat_flush.Goals as goal

pub split_seat-requires : goal.split_seat-requires
split_seat-requires c = let p = c.args.p.now in (
  c.requires.table,
  (let w = c.args.self.now.words in omega arith),
  seats_flush _ _ p.seat.me.0
      (acts_live p.seat.me.0.seat (inl p.stands.kind)) c.requires.alone,
)

pub invariant_of-p : goal.invariant_of-p
invariant_of-p c = let p = c.args.p.now in let s = c.split_seat.ensures in
    record { stands = producer_tells p.seat.id _ p.seat.me _ p.head p.end p.turn p.stands s.1 s.2 }

pub invariant_of-result : goal.invariant_of-result
invariant_of-result c = let p = c.args.p.now in
    record { stands = flush_opens c.split_seat.result.me p.seat.me.0 c.split_seat.ensures.4 c.requires.calm p.stands.within }
