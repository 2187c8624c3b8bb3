use Rattle.std.proofs.Common.{arith, inl}
use Rattle.commit_queue.proofs.SplitsAndJoins.{joins}
use Rattle.commit_queue.proofs.pipe_table.PipeTable.join_at.Goals as goal

pub join_seat-requires : goal.join_seat-requires
join_seat-requires c = let q = c.requires in (
  q.table.0,
  q.table.1,
  q.note.1,
  (let w = c.args.self.now.words in omega arith),
  joins _ _ c.args.seat.now.me.0 _ c.args.note.me.0
      (inl (q.worker, q.note.0, q.one)) q.calm,
)
