use Rattle.std.proofs.Common.{ap}
use Rattle.commit_queue.specs.Tells.{Seated}
use Rattle.commit_queue.proofs.TakesIn.{takes_in}
use Rattle.commit_queue.proofs.pipe_table.PipeTable.take_in_at.Goals as goal

pub returns-clause-told : goal.returns-clause-told
returns-clause-told c = takes_in c.args.seat.now.me.0 c.args.note.me.0 c.join_at.new.seat.me.0 c.settle_at.new.seat.me.0
    (ap (λ (m : Seated). m.0) c.join_at.ensures.told) c.settle_at.ensures.told.1
