-- What recovery reports of each segment (docs/formats/journal.md, "Recovery").
use Rattle.std.specs.Prelude.{◌≡◌, ℕ, List, [], ◌∷◌, ◌++◌, length}
use Rattle.std.specs.List.{AllZip}
use Rattle.disk_face.specs.Image.{log_number}
use Rattle.block_record.specs.declared.records.ReadOut.{ReadOut}
use Rattle.block_record.specs.ReadOut.{ReadsOut}
use Rattle.disk_face.specs.View.{Dirs}
use Rattle.wal_recovery.specs.declared.reports.SegReport.{SegReport}
use Rattle.wal_recovery.specs.Listing.{Stored, Wal, name_in, IsListingOf}
use Rattle.wal_recovery.specs.Recovering.{Spell}

-- The report says of the segment where it stands, how long it is, how it reads, and all its batches.
pub record IsReport (wal : ℕ) (stored : Stored) (report : SegReport) : Type 0 where
  pub side : report.side ≡ stored.side
  pub name : report.name ≡ name_in wal stored.index
  pub len : report.len ≡ length stored.content
  pub read : ReadOut
  pub reads : ReadsOut stored.content (log_number wal) read
  pub end_is : report.ends_at ≡ read.ends_at
  pub torn_is : report.torn ≡ read.torn
  pub batches : Spell read.records report.batches

-- one report for each segment of a WAL
abbrev pub ReportOn : Wal → List SegReport → Type 0
ReportOn wal reports = AllZip (IsReport wal.number) wal.segments reports

-- one report for each segment, WAL by WAL
unfoldable pub ReportOnAll : List Wal → List SegReport → Type 0
ReportOnAll [] reports = reports ≡ []
ReportOnAll (wal ∷ wals) reports = (own : List SegReport) × (later : List SegReport) × ReportOn wal own × ReportOnAll wals later × (reports ≡ own ++ later)

-- one report for each segment of the directories, by WAL and index
pub record AreReports (dirs : Dirs) (reports : List SegReport) : Type 0 where
  pub wals : List Wal
  pub listed : IsListingOf dirs wals
  pub reported : ReportOnAll wals reports
