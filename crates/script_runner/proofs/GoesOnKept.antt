-- What a closing keeps of a journal.
use Rattle.std.specs.Prelude.{Bool}
use Rattle.disk_face.specs.View.{DiskView}
use Rattle.failover_writer.specs.State.{JournalView}
use Rattle.failover_writer.specs.Lasting.{Lasts, Survives}
use Rattle.failover_writer.proofs.Laws.{outcome_further}
use Rattle.script_runner.specs.Runs.{GoesOnKept}

pub closed_on : {Disk : Type 0} (tells : Bool) (view : Disk → DiskView) (old new : JournalView Disk) → Lasts tells view old new → Survives tells view old new
    → GoesOnKept tells view old new
closed_on tells view old new lasts survives = record {
  outcome = λ start batches was. outcome_further tells start view batches old new lasts survives.keeps_base was;
  acked = lasts.acked;
}
