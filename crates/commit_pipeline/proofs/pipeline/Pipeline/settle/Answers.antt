use Rattle.commit_pipeline.proofs.AsBefore.{as_before}
use Rattle.commit_pipeline.proofs.pipeline.Pipeline.settle.Goals as goal

pub returns : goal.returns
returns g c = as_before c.args.sessions.now c.settle_beside.new.sessions c.settle_beside.ensures
