use Rattle.failover_writer.proofs.Laws.{outcome_recovers}
use Rattle.commit_pipeline.proofs.theorems.an_opened_base_is_kept.Goals as goal

pub returns : goal.returns
returns c = λ tells opening batches state v base told holds keeps. outcome_recovers tells opening.start batches state v base told holds keeps
