-- Nothing more is sent, and all that was is moved.
use Rattle.record_flow.specs.Passes.{send_view}
use Rattle.commit_pipeline.proofs.Flushing.{flushes_moved, flushes_ended}
use Rattle.commit_pipeline.proofs.flush_side.FlushSide.take_last.Goals as goal

pub invariant_of-self : goal.invariant_of-self
invariant_of-self g c =
    let e = c.move_all.ensures in (
      flushes_moved g.D.Disk.view e.same e.next e.moves
          (flushes_ended c.self.invariant.0 (send_view c.args.sends) _ _ c.end.ensures.queue c.end.ensures.ended),
      c.self.invariant.1,
    )
