-- The journal settles, and the acked word follows it.
use Rattle.commit_pipeline.proofs.Flushing.{flushes_driven}
use Rattle.commit_pipeline.proofs.flush_side.FlushSide.settle.Goals as goal

pub invariant_of-self : goal.invariant_of-self
invariant_of-self g c =
    let e = c.settle-answer.ensures in
    let raise = c.raise_acked.ensures in (
      flushes_driven e.lasts e.survives.keeps_base e.still raise.same c.acked.result c.raise_acked.result raise.raised c.acked.ensures
          c.self.invariant.0,
      c.self.invariant.1,
    )
