-- What a stop leaves of a journal, at the end of each call of its pipeline (docs/formats/ring.md, "What a pipeline holds").
use Rattle.std.specs.Prelude.{Bool, List, IsTrue}
use Rattle.batch_repr.specs.declared.batch.Batch.{Batch}
use Rattle.disk_face.specs.View.{DiskView, files}
use Rattle.failover_writer.specs.State.{State, acked}
use Rattle.failover_writer.specs.Keeping.{RecoversTo, KeepsBase}
use Rattle.failover_writer.specs.Outcome.{JournalOutcome}
use Rattle.commit_pipeline.specs.Openings.{Opening}

-- Whatever a journal kept as a base at the opening it recovers to, and after it to a prefix of the batches that it holds, with all
-- that are acked.
abbrev pub EachOpenedBaseIsKept : Type 0
EachOpenedBaseIsKept =
    (tells : Bool) (opening : Opening) (batches : List Batch) (state : State) (v : DiskView) (base : List Batch)
    → IsTrue tells
    → JournalOutcome tells opening.start batches state v
    → KeepsBase tells base opening.start.state opening.start.disk
    → RecoversTo base batches (acked state) (files v)
