use Rattle.std.proofs.Common.{List, sym, subst}
use Rattle.batch_repr.specs.declared.batch.Batch.{Batch}
use Rattle.commit_pipeline.specs.Openings.{EndsBefore}
use Rattle.commit_pipeline.proofs.EndsBefore.{no_base}
use Rattle.commit_pipeline.proofs.tests.play_out.Goals as goal

pub new-requires-clause-base : goal.new-requires-clause-base
new-requires-clause-base g c =
    subst (λ (base : List Batch). EndsBefore base c.next.result) (sym c.new-base.ensures) (no_base c.next.result)
