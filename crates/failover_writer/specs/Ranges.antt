-- Which segments a journal has, and which records they and the queue hold (docs/formats/journal.md, "The segments of a journal").
use Rattle.disk_face.specs.declared.names.TheConstants.{WAL_MAX, INDEX_MAX}
use Rattle.std.specs.Prelude.{◌≡◌, ◌≢◌, ℕ, suc, ◌%◌, ◌==◌, ◌≤◌, min, max, Bool, List, [], ◌∷◌, ◌++◌, length, Some, Contains, map, IsTrue, if◌then◌else◌}
use Rattle.std.specs.List.{AllByRecursion}
use Rattle.batch_repr.specs.declared.batch.Batch.{Batch}
use Rattle.batch_repr.specs.Batches.{IsContiguous, end_after}
use Rattle.batch_repr.specs.Spelling.{SpellsBatch}
use Rattle.batch_repr.specs.Written.{written}
use Rattle.disk_face.specs.declared.Side.{Side}
use Rattle.disk_face.specs.declared.Side.TheVariants.{Primary, Secondary}
use Rattle.disk_face.specs.declared.OpId.{OpId}
use Rattle.disk_face.specs.View.{segment, DiskView, Flight, files}
use Rattle.stall_monitor.specs.declared.verdict.TheConstants.{SEGMENTS_MAX}
use Rattle.log_writer.specs.declared.phase.Phase.TheVariants.{New}
use Rattle.log_writer.specs.Writer.{Writer}
use Rattle.log_writer.specs.Steps.{IsQueueOf}
use Rattle.log_writer.specs.Fits.{Fits, IsUnsent, place_of_writer}
use Rattle.failover_writer.specs.State.{State, JournalView, acked}

-- the side of the segment of this index: the primary one where it is even
abbrev pub side_at : ℕ → Side
side_at index = if index % 2 == 0 then Primary else Secondary

-- The segment has its own name and side, and was begun.
pub record IsSegmentAt (wal index : ℕ) (w : Writer) : Type 0 where
  pub side : w.side ≡ side_at index
  pub name : w.name ≡ record { wal = wal; index = index }
  pub begun : w.phase ≢ New

-- The segments stand by their indexes, and each begins at most at the end of what those before it have synced.
unfoldable pub AreJoined : ℕ → ℕ → ℕ → List Writer → Type 0
AreJoined wal index synced [] = Unit {0}
AreJoined wal index synced (w ∷ writers) = IsSegmentAt wal index w × (w.from ≤ synced) × AreJoined wal (suc index) (max synced w.synced) writers

-- Nothing was sent to the files of the segments from this index on.
abbrev pub AreUnsent : ℕ → ℕ → DiskView → Type 0
AreUnsent wal first v = (index : ℕ) → first ≤ index → index ≤ INDEX_MAX → IsUnsent (files v (segment (side_at index) (record { wal = wal; index = index })))

-- the end of what was sent to the current segment, or this number where none is begun
abbrev pub sent_to_current : ℕ → List Writer → ℕ
sent_to_current none [] = none
sent_to_current none (w ∷ writers) = sent_to_current w.sent writers

-- the records below this number are in no segment's way any more: some segment has synced them, and the current one has sent them
abbrev pub releasable : State → ℕ
releasable state = min (acked state) (sent_to_current 0 state.segments)

-- What is written of the batch spells it.
abbrev pub IsSpelled : Batch → Type 0
IsSpelled batch = SpellsBatch (written batch) batch

-- The journal holds these records, over a disk as it is now: its segments have them on the disk, and its queue those that a
-- segment may still have to write.
pub record StandsFor (tells : Bool) (records : List Batch) (state : State) (v : DiskView) : Type 0 where
  pub named : state.wal ≤ WAL_MAX
  pub numbered : IsContiguous state.base records
  pub spelled : AllByRecursion IsSpelled records
  pub next : state.next ≡ end_after state.base records
  pub queue : IsQueueOf records state.queue
  pub queued : state.queue.start ≤ releasable state
  pub want : state.want ≤ length records
  pub few : length state.segments ≤ SEGMENTS_MAX
  pub joined : AreJoined state.wal 0 0 state.segments
  pub fit : AllByRecursion (λ (w : Writer). Fits tells records w v) state.segments
  pub alone : (id : OpId) (f : Flight) → v.in_flight id ≡ Some f → Contains (map place_of_writer state.segments) f.place
  pub fresh : IsTrue tells → AreUnsent state.wal (length state.segments) v

-- The journal holds some records.
abbrev pub Stands : Bool → State → DiskView → Type 0
Stands tells state v = (records : List Batch) × StandsFor tells records state v

-- It goes on to hold each list of records that it held.
abbrev pub KeepsRecords : {Disk : Type 0} → Bool → (Disk → DiskView) → JournalView Disk → JournalView Disk → Type 0
KeepsRecords tells view old new = (records : List Batch) → StandsFor tells records old.state (view old.disk) → StandsFor tells records new.state (view new.disk)

-- It goes on to hold each list of records that it held, with this record after them.
abbrev pub AddsRecord : {Disk : Type 0} → Bool → (Disk → DiskView) → Batch → JournalView Disk → JournalView Disk → Type 0
AddsRecord tells view added old new = (records : List Batch) → StandsFor tells records old.state (view old.disk)
    → StandsFor tells (records ++ added ∷ []) new.state (view new.disk)
