use Rattle.std.proofs.Common.{arith}
use Rattle.commit_queue.proofs.Publishes.{settles}
use Rattle.commit_queue.proofs.pipe_table.PipeTable.settle_at.Goals as goal

pub load-requires : goal.load-requires
load-requires c = (c.requires.table, (let w = c.args.self.now.words in omega arith), settles _ _ _ c.args.seat.now.me c.requires.acts)
