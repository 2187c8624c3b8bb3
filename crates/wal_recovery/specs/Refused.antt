-- Why the directories are refused, in the order in which it is looked for (docs/formats/journal.md, "Recovery").
use Rattle.batch_repr.specs.declared.limits.TheConstants.{NUMBER_FIRST}
use Rattle.std.specs.Prelude.{◌≡◌, ℕ, ◌++◌, Some, List, [], ◌∷◌}
use Rattle.std.specs.List.{flat_map}
use Rattle.disk_face.specs.Image.{log_number}
use Rattle.batch_repr.specs.declared.batch.Batch.{Batch}
use Rattle.batch_repr.specs.declared.fault.BatchFault.{BatchFault}
use Rattle.batch_repr.specs.Batches.{end_after}
use Rattle.batch_repr.specs.Reading.{IsFirstFault}
use Rattle.block_record.specs.declared.records.ReadOut.{ReadOut}
use Rattle.block_record.specs.declared.records.Rec.{Rec}
use Rattle.block_record.specs.ReadOut.{ReadsOut}
use Rattle.segment_merge.specs.declared.segment.SegmentRead.{SegmentRead}
use Rattle.segment_merge.specs.Rows.{batches_in}
use Rattle.segment_merge.specs.Refusals.{IsGap, IsConflict}
use Rattle.segment_merge.specs.Lenient.{MergedLenient, IsLenientConflict}
use Rattle.disk_face.specs.View.{Dirs}
use Rattle.wal_recovery.specs.declared.fault.RecoverFault.{RecoverFault}
use Rattle.wal_recovery.specs.declared.fault.RecoverFault.TheVariants as faults
use Rattle.wal_recovery.specs.declared.reports.Mode.{Mode}
use Rattle.wal_recovery.specs.declared.reports.Mode.TheVariants.{Strict, Lenient}
use Rattle.wal_recovery.specs.Listing.{Stored, Wal, IsListingOf, IsDuplicate}
use Rattle.wal_recovery.specs.Recovering.{Spell, HoldRow, WalsMerge, HoldAll}

-- The first of the records that spells no batch: it stands at this place, and this is the first thing wrong with it.
pub record IsBadRecord (records : List Rec) (place : ℕ) (fault : BatchFault) : Type 0 where
  pub front : List Rec
  pub bad : Rec
  pub back : List Rec
  pub records_are : records ≡ front ++ bad ∷ back
  pub batches : List Batch
  pub spelled : Spell front batches
  pub place_is : place ≡ bad.at
  pub fault_is : IsFirstFault bad.bytes fault

-- A segment with these bytes reads as records of which one spells no batch: the first such stands at this place.
pub record HasBadRecord (log place : ℕ) (fault : BatchFault) (content : List ℕ) : Type 0 where
  pub read : ReadOut
  pub reads : ReadsOut content log read
  pub bad : IsBadRecord read.records place fault

-- A segment with these bytes reads as records that spell batches, and a chunk shows it corrupt after them.
pub record IsShownCorrupt (log at shown_at : ℕ) (content : List ℕ) : Type 0 where
  pub read : ReadOut
  pub reads : ReadsOut content log read
  pub shown : read.shown ≡ Some (record { at = at; shown_at = shown_at })
  pub all : List Batch
  pub spelled : Spell read.records all

-- The first of the segments that holds no batches, and this is wrong with it: those before it hold some.
pub record IsFirstWrongSegment (mode : Mode) (log : ℕ) (segments : List Stored) (index : ℕ) (Wrong : List ℕ → Type 0) : Type 0 where
  pub before : List Stored
  pub here : Stored
  pub after : List Stored
  pub segments_are : segments ≡ before ++ here ∷ after
  pub index_is : index ≡ here.index
  pub rows : List (List Batch)
  pub right : HoldRow mode log before rows
  pub wrong : Wrong here.content

-- The first record of the segments that spells no batch: those before it do, in the earlier segments too.
abbrev pub IsBadBatch : Mode → ℕ → List Stored → ℕ → ℕ → BatchFault → Type 0
IsBadBatch mode log segments index place fault = IsFirstWrongSegment mode log segments index (HasBadRecord log place fault)

-- The first segment that a chunk shows corrupt, and the place at which: all records before it spell batches.
abbrev pub IsCorrupt : ℕ → List Stored → ℕ → ℕ → ℕ → Type 0
IsCorrupt log segments index at shown_at = IsFirstWrongSegment Strict log segments index (IsShownCorrupt log at shown_at)

-- The WALs before this one recover, from this number on, to these batches.
pub record Reaches (first : ℕ) (dirs : Dirs) (number : ℕ) (segments : List Stored) (base : List Batch) : Type 0 where
  pub before : List Wal
  pub after : List Wal
  pub listed : IsListingOf dirs (before ++ record { number = number; segments = segments } ∷ after)
  pub merged : WalsMerge first before base

-- the batches of segments, each list under its segment's index
abbrev pub by_index : List Stored → List (List Batch) → List SegmentRead
by_index (stored ∷ segments) (batches ∷ row) = record { index = stored.index; batches = batches } ∷ by_index segments row
by_index segments row = []

-- Each segment of the WAL holds batches, and those of the earlier WALs recover to a base from whose end on the row is merged.
pub record ReachesRow (first : ℕ) (dirs : Dirs) (number : ℕ) : Type 0 where
  pub segments : List Stored
  pub base : List Batch
  pub reached : Reaches first dirs number segments base
  pub row : List (List Batch)
  pub holds : HoldRow Strict (log_number number) segments row

-- Why strict recovery from a number on refuses.
abbrev pub IsRefusedFrom : ℕ → Dirs → RecoverFault → Type 0
IsRefusedFrom first dirs (faults.Disk side) = ⊥
IsRefusedFrom first dirs (faults.DuplicateSegment wal index) = IsDuplicate dirs wal index
IsRefusedFrom first dirs (faults.BadBatch wal index place fault) =
    (segments : List Stored) × (base : List Batch) × Reaches first dirs wal segments base × IsBadBatch Strict (log_number wal) segments index place fault
IsRefusedFrom first dirs (faults.Corrupt wal index at shown_at) =
    (segments : List Stored) × (base : List Batch) × Reaches first dirs wal segments base × IsCorrupt (log_number wal) segments index at shown_at
IsRefusedFrom first dirs (faults.Gap wal index expected found) = (r : ReachesRow first dirs wal)
    × IsGap (end_after first r.base) (by_index r.segments r.row) index expected found
IsRefusedFrom first dirs (faults.Conflict wal index number) = (r : ReachesRow first dirs wal)
    × IsConflict (end_after first r.base) (by_index r.segments r.row) index number
IsRefusedFrom first dirs faults.NoMemory = ⊥

-- Why strict recovery refuses.
abbrev pub IsRefused : Dirs → RecoverFault → Type 0
IsRefused = IsRefusedFrom NUMBER_FIRST

-- ---- where gaps are accepted

-- The segments of the front and of the WALs before this one are merged, with gaps, to these batches: the WALs hold these rows.
pub record ReachesLenient (front : List SegmentRead) (dirs : Dirs) (number : ℕ) (segments : List Stored) : Type 0 where
  pub before : List Wal
  pub after : List Wal
  pub listed : IsListingOf dirs (before ++ record { number = number; segments = segments } ∷ after)
  pub rows : List (List Batch)
  pub hold : HoldAll before rows
  pub base : List Batch
  pub merges : MergedLenient (batches_in front ++ rows) base

-- the segments of WALs, one WAL after another
abbrev pub segments_of : List Wal → List Stored
segments_of wals = flat_map (λ (wal : Wal). wal.segments) wals

-- the segments of the front, of the earlier WALs and of this one as one row, each with its batches and under its own index
abbrev pub row_up_to : {front : List SegmentRead} → {dirs : Dirs} → {number : ℕ} → {segments : List Stored} → ReachesLenient front dirs number segments
    → List (List Batch) → List SegmentRead
row_up_to {front = front} {segments = segments} reached own = (front ++ by_index (segments_of reached.before) reached.rows) ++ by_index segments own

-- The record of a WAL that spells no batch, the first of them: the WALs before this one are merged.
pub record IsFirstBadBatch (front : List SegmentRead) (dirs : Dirs) (number index place : ℕ) (fault : BatchFault) : Type 0 where
  pub segments : List Stored
  pub reached : ReachesLenient front dirs number segments
  pub bad : IsBadBatch Lenient (log_number number) segments index place fault

-- The first batch in the row up to this WAL that begins below the end of one before it and is none of those: the segments of this WAL hold batches, and the WALs before it are merged.
pub record IsConflictOfAll (front : List SegmentRead) (dirs : Dirs) (number index first : ℕ) : Type 0 where
  pub segments : List Stored
  pub reached : ReachesLenient front dirs number segments
  pub own : List (List Batch)
  pub holds : HoldRow Lenient (log_number number) segments own
  pub wrong : IsLenientConflict (row_up_to reached own) index first

-- Why recovery with gaps refuses, where the row begins with a front.
abbrev pub IsLenientlyRefusedAfter : List SegmentRead → Dirs → RecoverFault → Type 0
IsLenientlyRefusedAfter front dirs (faults.DuplicateSegment wal index) = IsDuplicate dirs wal index
IsLenientlyRefusedAfter front dirs (faults.BadBatch wal index place fault) = IsFirstBadBatch front dirs wal index place fault
IsLenientlyRefusedAfter front dirs (faults.Conflict wal index first) = IsConflictOfAll front dirs wal index first
IsLenientlyRefusedAfter front dirs fault = ⊥

-- Why recovery with gaps refuses.
abbrev pub IsLenientlyRefused : Dirs → RecoverFault → Type 0
IsLenientlyRefused = IsLenientlyRefusedAfter []
