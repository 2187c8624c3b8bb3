-- What was found was moved.
use Rattle.commit_pipeline.proofs.Flushing.{flushes_moved}
use Rattle.commit_pipeline.proofs.flush_side.FlushSide.take_in.Goals as goal

pub invariant_of-self : goal.invariant_of-self
invariant_of-self g c =
    let e = c.move_all.ensures in
    (flushes_moved g.D.Disk.view e.same e.next e.moves c.self.invariant.0, c.self.invariant.1)
