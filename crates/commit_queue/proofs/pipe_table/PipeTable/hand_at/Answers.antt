use Rattle.std.proofs.Common.{arith}
use Rattle.commit_queue.proofs.SplitsAndJoins.{hands}
use Rattle.commit_queue.proofs.pipe_table.PipeTable.hand_at.Goals as goal

pub split_seat-requires : goal.split_seat-requires
split_seat-requires c = let q = c.requires in
    (q.table, (let w = c.args.self.now.words in omega arith), hands _ _ c.args.seat.now.me.0 c.args.index q.producer q.holds.0 q.holds.1)
