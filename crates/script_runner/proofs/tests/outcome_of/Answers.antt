-- There are no batches; and nothing stands on an empty disk, so nothing was sent to a segment.
use Rattle.std.proofs.Common.{List, sym, subst}
use Rattle.batch_repr.specs.declared.batch.Batch.{Batch}
use Rattle.disk_face.specs.View.{segment}
use Rattle.log_writer.specs.Fits.{IsUnsent}
use Rattle.failover_writer.specs.Ranges.{side_at}
use Rattle.commit_pipeline.specs.Openings.{EndsBefore}
use Rattle.commit_pipeline.proofs.Laws.{no_base}
use Rattle.script_runner.proofs.tests.outcome_of.Goals as goal

pub run_work-outcome-requires-clause-base : goal.run_work-outcome-requires-clause-base
run_work-outcome-requires-clause-base g c κs within = subst (λ (base : List Batch). EndsBefore base 10) (sym c.new.ensures) (no_base 10)

pub run_work-outcome-requires-clause-absent : goal.run_work-outcome-requires-clause-absent
run_work-outcome-requires-clause-absent g c κs within told index low high = subst IsUnsent
    (sym (c.into_disk-disk.ensures.empty (segment (side_at index) (record { wal = 1; index = index })))) (tt, λ f is. cc)
