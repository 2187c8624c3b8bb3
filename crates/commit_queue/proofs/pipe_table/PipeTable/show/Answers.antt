use Rattle.commit_queue.proofs.Stands.{producer_tells}
use Rattle.commit_queue.proofs.pipe_table.PipeTable.show.Goals as goal

pub invariant_of-p : goal.invariant_of-p
invariant_of-p c = let p = c.args.p.now in let s = c.tell_at-note.ensures in
    record { stands = producer_tells p.seat.id _ p.seat.me _ p.head p.end p.turn p.stands s.same.1 s.left }
