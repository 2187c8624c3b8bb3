-- Polls are left to stall, which the opening must allow.
use Rattle.commit_pipeline.proofs.Flushing.{flushes_stalled}
use Rattle.commit_pipeline.proofs.flush_side.FlushSide.stall.Goals as goal

pub invariant_of-self : goal.invariant_of-self
invariant_of-self g c =
    let e = c.stall.ensures in (
      flushes_stalled g.D.Disk.view c.args.side c.args.polls c.requires e.state e.stalled e.keeps e.keeps_base c.self.invariant.0,
      c.self.invariant.1,
    )
