-- Each try goes on from the one before.
use Rattle.std.proofs.Common.{refl}
use Rattle.commit_queue.proofs.GoesOn.{goes_on_same}
use Rattle.commit_queue.proofs.pipe_table.PipeTable.publish_ready.Goals as goal

pub loop-init : goal.loop-init
loop-init c = record { same = refl; on = goes_on_same c.args.s.now.seat.me.0 }
