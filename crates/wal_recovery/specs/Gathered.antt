-- What recovery gathers while it reads segments one after another (docs/formats/journal.md, "Recovery").
use Rattle.std.specs.Prelude.{◌≡◌, ℕ, Bool, List, [], ◌∷◌, ◌++◌, length, map, All, IsTrue}
use Rattle.std.specs.List.{AllZip}
use Rattle.batch_repr.specs.declared.batch.Batch.{Batch}
use Rattle.block_record.specs.declared.records.ReadOut.{ReadOut}
use Rattle.block_record.specs.ReadOut.{ReadsOut}
use Rattle.segment_merge.specs.declared.segment.SegmentRead.{SegmentRead}
use Rattle.segment_merge.specs.declared.fault.MergeFault.{MergeFault}
use Rattle.segment_merge.specs.declared.fault.MergeFault.TheVariants as merges
use Rattle.segment_merge.specs.Rows.{IsNumbered, IsNumberedSegment, batches_in}
use Rattle.segment_merge.specs.Lenient.{MergedLenient}
use Rattle.disk_face.specs.View.{Files, Dirs}
use Rattle.disk_face.specs.Image.{log_number}
use Rattle.disk_face.specs.Listing.{HasLength}
use Rattle.wal_recovery.specs.declared.fault.RecoverFault.{RecoverFault}
use Rattle.wal_recovery.specs.declared.fault.RecoverFault.TheVariants as faults
use Rattle.wal_recovery.specs.declared.listing.Found.{Found}
use Rattle.wal_recovery.specs.declared.reports.Mode.{Mode}
use Rattle.wal_recovery.specs.declared.reports.Mode.TheVariants.{Strict}
use Rattle.wal_recovery.specs.declared.reports.SegReport.{SegReport}
use Rattle.wal_recovery.specs.declared.wals.FoundWal.{FoundWal}
use Rattle.wal_recovery.specs.Base.{AreWithinLimits}
use Rattle.wal_recovery.specs.Listing.{IsListingOf}
use Rattle.wal_recovery.specs.Recovering.{taking_numbers, Spell, PassesOver}
use Rattle.wal_recovery.specs.Refused.{HasBadRecord, IsShownCorrupt, by_index}
use Rattle.wal_recovery.specs.Rows.{place_listed, bytes_at, stored_in, wals_in}

-- The segment has as many bytes as it was listed with.
abbrev pub IsAsListed : Files → Found → Type 0
IsAsListed files segment = HasLength files (place_listed segment) segment.len

-- each of them does
abbrev pub AreAsListed : Files → List Found → Type 0
AreAsListed files segments = All (IsAsListed files) segments

-- The report says how these bytes of a listed segment read. Nothing shows it corrupt, or gaps are accepted.
pub record IsReportOf (mode : Mode) (segment : Found) (bytes : List ℕ) (report : SegReport) : Type 0 where
  pub side : report.side ≡ segment.side
  pub name : report.name ≡ segment.name
  pub len : report.len ≡ segment.len
  pub read : ReadOut
  pub reads : ReadsOut bytes (log_number segment.name.wal) read
  pub end_is : report.ends_at ≡ read.ends_at
  pub torn_is : report.torn ≡ read.torn
  pub passes : PassesOver mode read.shown
  pub batches : Spell read.records report.batches

-- The fault is the first bad record of these bytes of a listed segment, or, where no gap is accepted, that a chunk shows it corrupt.
abbrev pub IsBadIn : Mode → Found → List ℕ → RecoverFault → Type 0
IsBadIn mode segment bytes (faults.BadBatch wal index place fault) =
    (wal ≡ segment.name.wal) × (index ≡ segment.name.index) × HasBadRecord (log_number segment.name.wal) place fault bytes
IsBadIn mode segment bytes (faults.Corrupt wal index at shown_at) =
    (wal ≡ segment.name.wal) × (index ≡ segment.name.index) × (mode ≡ Strict) × IsShownCorrupt (log_number segment.name.wal) at shown_at bytes
IsBadIn mode segment bytes fault = ⊥

-- the batches of a report that take a number, under an index
abbrev pub read_as : ℕ → SegReport → SegmentRead
read_as index report = record { index = index; batches = taking_numbers report.batches }

-- Each batch of the report that takes a number ends within the numbers.
abbrev pub IsNumberedReport : SegReport → Type 0
IsNumberedReport report = All IsNumbered (taking_numbers report.batches)

-- One segment more: its report is added, and the batches of it that take a number.
pub record AddsSegment (tells : Bool) (mode : Mode) (files : Files) (segment : Found) (index : ℕ) (old new : List SegReport)
    (row longer : List SegmentRead) : Type 0 where
  pub report : SegReport
  pub reports : new ≡ old ++ report ∷ []
  pub rows : longer ≡ row ++ read_as index report ∷ []
  pub numbered : IsNumberedReport report
  pub within : AreWithinLimits report.batches
  pub holds : IsTrue tells → IsAsListed files segment → IsReportOf mode segment (bytes_at files (place_listed segment)) report

-- the batches of reports that take a number
abbrev pub counted_in : List SegReport → List (List Batch)
counted_in reports = map (λ (r : SegReport). taking_numbers r.batches) reports

-- The batches of the front and of the reports that take a number, where gaps are accepted, are merged to these.
pub record AreReportsMerged (front : List SegmentRead) (reports : List SegReport) (merged : List Batch) : Type 0 where
  pub merges : MergedLenient (batches_in front ++ counted_in reports) merged
  pub before : All IsNumberedSegment front
  pub numbered : All IsNumberedReport reports

-- Segments more, in their order.
pub record AddsSegments (tells : Bool) (mode : Mode) (files : Files) (segments : List Found) (old new : List SegReport) : Type 0 where
  pub own : List SegReport
  pub reports : new ≡ old ++ own
  pub as_many : length own ≡ length segments
  pub numbered : All IsNumberedReport own
  pub within : All (λ (r : SegReport). AreWithinLimits r.batches) own
  pub holds : IsTrue tells → AreAsListed files segments
      → AllZip (λ (f : Found) (r : SegReport). IsReportOf mode f (bytes_at files (place_listed f)) r) segments own

-- The row of a WAL, each segment under its own index.
pub record GathersWal (tells : Bool) (mode : Mode) (files : Files) (segments : List Found) (old new : List SegReport)
    (row : List SegmentRead) : Type 0 where
  pub added : AddsSegments tells mode files segments old new
  pub rows : row ≡ by_index (map (stored_in files) segments) (counted_in added.own)

-- The first bad record of the segments, or the first that is corrupt: those before its segment read well.
pub record IsFirstBadOf (mode : Mode) (files : Files) (segments : List Found) (fault : RecoverFault) : Type 0 where
  pub before : List Found
  pub here : Found
  pub after : List Found
  pub cut : segments ≡ before ++ here ∷ after
  pub reports : List SegReport
  pub right : AllZip (λ (f : Found) (r : SegReport). IsReportOf mode f (bytes_at files (place_listed f)) r) before reports
  pub bad : IsBadIn mode here (bytes_at files (place_listed here)) fault

-- Each segment is of the WAL.
abbrev pub IsOwnWal : FoundWal → Type 0
IsOwnWal wal = All (λ (f : Found). f.name.wal ≡ wal.number) wal.segments.items

-- The WALs are those of the directories, each segment with as many bytes as it was listed with, and with those that its file reads as.
pub record AreListedWals (dirs : Dirs) (files : Files) (wals : List FoundWal) : Type 0 where
  pub as_listed : All (λ (w : FoundWal). AreAsListed files w.segments.items) wals
  pub listed : IsListingOf dirs (wals_in files wals)

-- ---- refusals of a merge, by the names of segments

-- the refusal, in the WAL whose row it is
abbrev pub named_in_wal : ℕ → MergeFault → RecoverFault
named_in_wal wal (merges.Gap index expected found) = faults.Gap wal index expected found
named_in_wal wal (merges.Conflict index first) = faults.Conflict wal index first
named_in_wal wal merges.NoMemory = faults.NoMemory

-- No side failed.
abbrev pub IsNoDisk : RecoverFault → Type 0
IsNoDisk (faults.Disk side) = ⊥
IsNoDisk fault = Unit {0}
