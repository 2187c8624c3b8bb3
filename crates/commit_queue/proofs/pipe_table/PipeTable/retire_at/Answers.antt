use Rattle.std.proofs.Common.{arith}
use Rattle.commit_queue.proofs.Retires.{retires_into}
use Rattle.commit_queue.proofs.pipe_table.PipeTable.retire_at.Goals as goal

pub join_seat-requires : goal.join_seat-requires
join_seat-requires c = let q = c.requires in (
  q.table,
  q.seat,
  q.none_out,
  (let w = c.args.self.now.words in omega arith),
  retires_into _ _ c.args.seat.now.me.0 _ c.args.back.me.0 q.producer.0 q.worker q.free q.idle q.calm,
)
