use Rattle.commit_queue.proofs.Stands.{session_takes_in}
use Rattle.commit_queue.proofs.pipe_table.PipeTable.adopt.Goals as goal

pub invariant_of-s : goal.invariant_of-s
invariant_of-s c = let s = c.args.s.now in let h = c.args.h in let t = c.take_in_at.ensures in
    record {
      stands = session_takes_in s.seat.me _ h.seat.me.0 s.index s.end h.index h.end s.turn s.stands t.same.1 t.told
          h.stands.not_flush h.stands.ticket c.requires.idle;
    }
