-- What a stop leaves of a journal (docs/formats/journal.md, "What a stop leaves of a journal").
use Rattle.batch_repr.specs.declared.limits.TheConstants.{NUMBER_FIRST}
use Rattle.std.specs.Prelude.{◌≡◌, ℕ, ◌<◌, ◌≤◌, Bool, List, ◌++◌, length, take, map, Contains, Some, None, IsTrue}
use Rattle.crc_chunk.specs.Chunk.{IsChunkOf}
use Rattle.batch_repr.specs.declared.batch.Batch.{Batch}
use Rattle.batch_repr.specs.Batches.{end_after}
use Rattle.disk_face.specs.declared.Side.{Side}
use Rattle.disk_face.specs.declared.SegName.{SegName}
use Rattle.disk_face.specs.View.{Place, segment, File, Files, Dirs, DiskView, files, AtEachMoment}
use Rattle.disk_face.specs.Image.{IsImage, IsChanceFree}
use Rattle.disk_face.specs.Listing.{IsSegmentName}
use Rattle.wal_recovery.specs.Further.{IsSameElsewhere, SegmentsMerge}
use Rattle.wal_recovery.specs.Recovering.{Recovers}
use Rattle.log_writer.specs.Fits.{place_of_writer}
use Rattle.failover_writer.specs.State.{State, JournalView, acked}
use Rattle.failover_writer.specs.Ranges.{StandsFor}

-- The segments of the journal's WAL merge to a prefix of its records, with all that are acked. Every other file is as in an
-- image of the opening.
pub record IsRunOver (wal first : ℕ) (records : List Batch) (acked : ℕ) (opening : Files) (dirs : Dirs) : Type 0 where
  pub count : ℕ
  pub has_acked : acked ≤ count
  pub within : count ≤ length records
  pub merges : SegmentsMerge dirs wal first (take count records)
  pub others : Dirs
  pub image : IsImage opening others
  pub chance_free : IsChanceFree IsChunkOf opening others
  pub same : IsSameElsewhere wal dirs others

-- It is so in each image that no torn chunk deceives.
abbrev pub KeepsRun : ℕ → ℕ → List Batch → ℕ → Files → Files → Type 0
KeepsRun wal first records acked opening now = (dirs : Dirs) → IsImage now dirs → IsChanceFree IsChunkOf now dirs
    → IsRunOver wal first records acked opening dirs

-- The directories recover to the base followed by a prefix of the records, with all that are acked.
abbrev pub RecoversWith : List Batch → List Batch → ℕ → Dirs → Type 0
RecoversWith base records acked dirs = (count : ℕ) × (acked ≤ count) × (count ≤ length records) × Recovers dirs (base ++ take count records)

-- It is so in each image that no torn chunk deceives.
abbrev pub RecoversTo : List Batch → List Batch → ℕ → Files → Type 0
RecoversTo base records acked now = (dirs : Dirs) → IsImage now dirs → IsChanceFree IsChunkOf now dirs → RecoversWith base records acked dirs

-- No file stands for a segment of this WAL.
abbrev pub HasNoSegment : ℕ → Files → Type 0
HasNoSegment wal opening = (side : Side) (name : SegName) → IsSegmentName name → name.wal ≡ wal → opening (segment side name) ≡ None

-- No file has changed since the opening but those of the journal's segments.
abbrev pub OthersStay : Files → State → Files → Type 0
OthersStay opening state now = (p : Place) → (Contains (map place_of_writer state.segments) p → ⊥) → now p ≡ opening p

-- The files on which a journal was begun had no segment of its WAL, and none has changed since but those of its segments.
pub record IsOpenedOn (opening : Files) (state : State) (now : Files) : Type 0 where
  pub absent : HasNoSegment state.wal opening
  pub others : OthersStay opening state now

-- Files on which a journal may be begun: each image recovers to the base, which ends at this number, and the WAL is above all others.
pub record IsOpening (wal first : ℕ) (base : List Batch) (opening : Files) : Type 0 where
  pub above : (side : Side) (name : SegName) (f : File) → IsSegmentName name → opening (segment side name) ≡ Some f → name.wal < wal
  pub ends : first ≡ end_after NUMBER_FIRST base
  pub recovers : (dirs : Dirs) → IsImage opening dirs → IsChanceFree IsChunkOf opening dirs → Recovers dirs base

-- A journal keeps a base: it was begun on files that recover to it, and none has changed since but those of its segments.
pub record KeepsBase (tells : Bool) (base : List Batch) (state : State) (v : DiskView) : Type 0 where
  pub opening : Files
  pub begun : IsOpening state.wal state.base base opening
  pub others : IsTrue tells → OthersStay opening state (files v)

-- It goes on to keep each base that it kept.
abbrev pub KeepsBases : {Disk : Type 0} → Bool → (Disk → DiskView) → JournalView Disk → JournalView Disk → Type 0
KeepsBases tells view old new = (base : List Batch) → KeepsBase tells base old.state (view old.disk) → KeepsBase tells base new.state (view new.disk)

-- ---- moments

-- The files at a moment of a call: a journal of the same WAL and base stands for the records, with all that were acked before.
pub record StoodAt (tells : Bool) (records : List Batch) (opening : Files) (old : State) (now : Files) : Type 0 where
  pub state : State
  pub v : DiskView
  pub here : now ≡ files v
  pub stands : StandsFor tells records state v
  pub others : OthersStay opening state now
  pub wal : state.wal ≡ old.wal
  pub base : state.base ≡ old.base
  pub acked : acked old ≤ acked state

-- What a call does to a journal and its disk, where files are told: at each moment it stands for its records.
pub record Passes (tells : Bool) (old new : State) (before after : DiskView) : Type 0 where
  pub wal : new.wal ≡ old.wal
  pub base : new.base ≡ old.base
  pub acked : acked old ≤ acked new
  pub others : (opening : Files) → IsTrue tells → OthersStay opening old (files before) → OthersStay opening new (files after)
  pub moments : (records : List Batch) (opening : Files) → StandsFor tells records old before → IsTrue tells
      → OthersStay opening old (files before) → AtEachMoment before.clock after (StoodAt tells records opening old)
