-- The command `dump`: the used table and the segments are shown (docs/formats/program.md, "The text of a dump").
use Rattle.std.specs.Prelude.{◌≡◌, ℕ, Bool, IsTrue, List, [], ◌++◌, length, Option, Some, None}
use Rattle.std.specs.List.{flat_map}
use Rattle.disk_face.specs.View.{DiskView}
use Rattle.disk_face.specs.Image.{directories}
use Rattle.disk_face.specs.Calls.{SameDisk}
use Rattle.text_lines.specs.Lines.{segment_line, table_line, batch_lines, recovered_end}
use Rattle.wal_recovery.specs.declared.reports.Mode.TheVariants.{Lenient}
use Rattle.wal_recovery.specs.declared.reports.SegReport.{SegReport}
use Rattle.wal_recovery.specs.Listing.{from_wal}
use Rattle.wal_recovery.specs.Reports.{AreReports}
use Rattle.flush_table.specs.declared.reports.TableSeen.{TableSeen}
use Rattle.flush_table.specs.Stores.{wal_after}
use Rattle.script_runner.specs.Runs.{PollsNeverRise}
use Rattle.wal_top.specs.declared.status.Status.{Status}
use Rattle.wal_top.specs.Call.{Change}
use Rattle.wal_top.specs.Recovery.{ReadsStore, next_of, SaysShown, ShownIsDue, WritesNoJournal}

-- what is said of a segment and its batches
abbrev pub report_lines : SegReport → List ℕ
report_lines report =
    segment_line (record { side = report.side; name = report.name; len = report.len; ends_at = report.ends_at; torn = report.torn })
    (length report.batches) ++ flat_map batch_lines report.batches

-- what is said of all segments
abbrev pub segments_text : List SegReport → List ℕ
segments_text reports = flat_map report_lines reports

-- what is said of the table that is used
abbrev pub used_text : Option TableSeen → List ℕ
used_text None = []
used_text (Some seen) = table_line (record { name = record { upto = seen.upto }; keys = seen.keys; next = seen.next })

-- The used table and the segments above it were shown, and what their batches are merged to.
pub record ShowsSegments (tells : Bool) (disk : Change DiskView) (text : List ℕ) : Type 0 where
  pub read : ReadsStore Lenient tells disk
  pub reports : List SegReport
  pub reports_are : IsTrue tells → AreReports (from_wal (wal_after read.seen) (directories disk.before)) reports
  pub text_is : text ≡ used_text read.seen ++ segments_text reports ++ recovered_end (length read.batches) (next_of read)
  pub same : SameDisk disk.before disk.after

-- ---- what it says, when that has to come, and what it leaves

abbrev pub SaysDump : Bool → Change DiskView → Status → List ℕ → Type 0
SaysDump tells disk status text = SaysShown Lenient tells disk (ShowsSegments tells disk text) status text

abbrev pub DumpIsDue : Bool → Change DiskView → Status → Type 0
DumpIsDue tells disk status = ShownIsDue Lenient tells disk status

pub record LeavesDump (tells : Bool) (disk : Change DiskView) : Type 0 where
  pub polls : PollsNeverRise disk.before disk.after
  pub no_journal : WritesNoJournal tells disk
  pub same : SameDisk disk.before disk.after
