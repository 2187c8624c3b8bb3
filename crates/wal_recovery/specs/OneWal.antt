-- One WAL as it is read and merged, from the end of those before it (docs/formats/journal.md, "Recovery").
use Rattle.std.specs.Prelude.{◌≡◌, ℕ, List, ◌++◌}
use Rattle.disk_face.specs.Image.{log_number}
use Rattle.batch_repr.specs.declared.batch.Batch.{Batch}
use Rattle.segment_merge.specs.declared.segment.SegmentRead.{SegmentRead}
use Rattle.segment_merge.specs.Refusals.{IsGap, IsConflict}
use Rattle.segment_merge.specs.Lenient.{IsLenientConflict}
use Rattle.wal_recovery.specs.declared.fault.RecoverFault.{RecoverFault}
use Rattle.wal_recovery.specs.declared.fault.RecoverFault.TheVariants as faults
use Rattle.wal_recovery.specs.declared.reports.Mode.{Mode}
use Rattle.wal_recovery.specs.declared.reports.Mode.TheVariants.{Strict, Lenient}
use Rattle.wal_recovery.specs.declared.reports.SegReport.{SegReport}
use Rattle.wal_recovery.specs.Listing.{Wal}
use Rattle.wal_recovery.specs.Recovering.{HoldRow}
use Rattle.wal_recovery.specs.Refused.{IsBadBatch, IsCorrupt, by_index}
use Rattle.wal_recovery.specs.Reports.{ReportOn}

-- The reports on the segments of the WAL are added.
pub record AddsReports (wal : Wal) (old new : List SegReport) : Type 0 where
  pub own : List SegReport
  pub reports : new ≡ old ++ own
  pub on : ReportOn wal own

-- Each segment of the WAL holds batches.
pub record HoldsRow (mode : Mode) (wal : Wal) : Type 0 where
  pub row : List (List Batch)
  pub holds : HoldRow mode (log_number wal.number) wal.segments row

-- Why the WAL is refused where this number comes next.
abbrev pub IsRefusedWal : ℕ → Wal → RecoverFault → Type 0
IsRefusedWal next wal (faults.BadBatch number index place fault) = (number ≡ wal.number)
    × IsBadBatch Strict (log_number wal.number) wal.segments index place fault
IsRefusedWal next wal (faults.Corrupt number index at shown_at) = (number ≡ wal.number)
    × IsCorrupt (log_number wal.number) wal.segments index at shown_at
IsRefusedWal next wal (faults.Gap number index expected found) = (number ≡ wal.number) × (h : HoldsRow Strict wal)
    × IsGap next (by_index wal.segments h.row) index expected found
IsRefusedWal next wal (faults.Conflict number index first) = (number ≡ wal.number) × (h : HoldsRow Strict wal)
    × IsConflict next (by_index wal.segments h.row) index first
IsRefusedWal next wal fault = ⊥

-- ---- where gaps are accepted

-- Why the WAL is refused after this row of the WALs before it.
abbrev pub IsLenientlyRefusedWal : List SegmentRead → Wal → RecoverFault → Type 0
IsLenientlyRefusedWal before wal (faults.BadBatch number index place fault) = (number ≡ wal.number)
    × IsBadBatch Lenient (log_number wal.number) wal.segments index place fault
IsLenientlyRefusedWal before wal (faults.Conflict number index first) = (number ≡ wal.number) × (h : HoldsRow Lenient wal)
    × IsLenientConflict (before ++ by_index wal.segments h.row) index first
IsLenientlyRefusedWal before wal fault = ⊥
