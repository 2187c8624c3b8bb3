-- What holds of each journal between its calls (docs/formats/journal.md, "What a stop leaves of a journal").
use Rattle.batch_repr.specs.declared.limits.TheConstants.{NUMBER_FIRST}
use Rattle.std.specs.Prelude.{◌≡◌, ◌<◌, ℕ, Bool, List, Some, IsTrue}
use Rattle.crc_chunk.specs.Chunk.{IsChunkOf}
use Rattle.batch_repr.specs.declared.batch.Batch.{Batch}
use Rattle.batch_repr.specs.Batches.{end_after}
use Rattle.disk_face.specs.declared.Side.{Side}
use Rattle.disk_face.specs.declared.SegName.{SegName}
use Rattle.disk_face.specs.Listing.{IsSegmentName}
use Rattle.disk_face.specs.View.{segment, File, Files, DiskView, files}
use Rattle.disk_face.specs.Image.{IsImage, IsChanceFree, IsRested, dirs_as_read, directories}
use Rattle.wal_recovery.specs.Recovering.{Recovers}
use Rattle.wal_recovery.specs.Resting.{AreSegmentsStable}
use Rattle.failover_writer.specs.State.{State, acked, broken_count}
use Rattle.failover_writer.specs.Ranges.{StandsFor}
use Rattle.failover_writer.specs.Keeping.{KeepsRun, RecoversTo, OthersStay, IsOpenedOn, IsOpening, KeepsBase}

-- A journal keeps its run: in each image its segments merge to a prefix of its records, with all that are acked, and every other
-- file is as it was when the journal was begun.
abbrev pub EachJournalKeepsItsRun : Type 0
EachJournalKeepsItsRun =
    (tells : Bool) (records : List Batch) (opening : Files) (state : State) (v : DiskView)
    → IsTrue tells
    → StandsFor tells records state v
    → IsOpenedOn opening state (files v)
    → KeepsRun state.wal state.base records (acked state) opening (files v)

-- A journal that keeps a base recovers to it, and after it to a prefix of its records, with all that are acked.
abbrev pub EachJournalKeepsItsBase : Type 0
EachJournalKeepsItsBase =
    (tells : Bool) (records base : List Batch) (state : State) (v : DiskView)
    → IsTrue tells
    → StandsFor tells records state v
    → KeepsBase tells base state v
    → RecoversTo base records (acked state) (files v)

-- Files at rest whose segments are stable in full, all below a WAL, open a journal of that WAL.
abbrev pub StableFilesOpenAJournal : Type 0
StableFilesOpenAJournal =
    (wal : ℕ) (base : List Batch) (now : Files)
    → IsRested now
    → AreSegmentsStable now
    → Recovers (dirs_as_read now) base
    → ((side : Side) (name : SegName) (f : File) → IsSegmentName name → now (segment side name) ≡ Some f → name.wal < wal)
    → IsOpening wal (end_after NUMBER_FIRST base) base now

-- A journal of which no segment has failed, begun on files at rest, reads as an image that no torn chunk deceives.
abbrev pub JournalsWithoutFailuresReadAsImages : Type 0
JournalsWithoutFailuresReadAsImages =
    (tells : Bool) (records : List Batch) (opening : Files) (state : State) (v : DiskView)
    → IsTrue tells
    → StandsFor tells records state v
    → broken_count state ≡ 0
    → IsRested opening
    → OthersStay opening state (files v)
    → IsImage (files v) (directories v) × IsChanceFree IsChunkOf (files v) (directories v)
