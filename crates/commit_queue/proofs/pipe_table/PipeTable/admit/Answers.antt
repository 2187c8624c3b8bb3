use Rattle.std.proofs.Common.{arith}
use Rattle.commit_queue.proofs.Stands.{producer_admits}
use Rattle.commit_queue.proofs.Places.{admits_at}
use Rattle.commit_queue.proofs.pipe_table.PipeTable.admit.Goals as goal

pub fetch_add-p-requires : goal.fetch_add-p-requires
fetch_add-p-requires c = let p = c.args.p.now in
    (c.requires.table, (let w = c.args.self.now.words in omega arith), admits_at _ _ _ _ p.stands.id_is c.requires.placed)

pub invariant_of-p : goal.invariant_of-p
invariant_of-p c = let p = c.args.p.now in let s = c.fetch_add-p.ensures in
    record { stands = producer_admits p.seat.id _ p.seat.me _ p.head p.end p.turn p.stands s.1 s.2.0 s.2.1 c.requires.placed }
