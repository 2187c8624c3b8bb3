-- What `dump` says of the used table and the segments, and that it says what has to come.
use Rattle.std.proofs.Common.{◌≡◌, ℕ, Bool, List, ◌++◌, length, IsTrue, ap, ◌∙◌}
use Rattle.disk_face.specs.View.{DiskView, NothingInFlight}
use Rattle.disk_face.specs.Image.{directories}
use Rattle.disk_face.specs.Calls.{SameDisk}
use Rattle.text_lines.specs.Lines.{recovered_end}
use Rattle.wal_recovery.specs.declared.reports.Mode.TheVariants.{Lenient}
use Rattle.wal_recovery.specs.declared.reports.SegReport.{SegReport}
use Rattle.wal_recovery.specs.Listing.{from_wal}
use Rattle.wal_recovery.specs.Reports.{AreReports}
use Rattle.flush_table.specs.Stores.{wal_after}
use Rattle.wal_top.specs.declared.status.Status.{Status}
use Rattle.wal_top.specs.Call.{Change, Stays}
use Rattle.wal_top.specs.Recovery.{ReadsStore, next_of, SaysUnrecovered}
use Rattle.wal_top.specs.Dump.{segments_text, used_text, ShowsSegments, SaysDump, DumpIsDue, LeavesDump}
use Rattle.wal_top.specs.Rightly.{IsOfCommand, IsTheDue}
use Rattle.wal_top.proofs.Recovery.{shows_unrecovered, shown_told, shown_due}
use Rattle.wal_top.proofs.Untouched.{untouched_polls, untouched_journal, untouched_same}

module _ (tells : Bool) (disk : Change DiskView) (text : List ℕ) where
  -- ---- what is said

  -- the segments as recovery answers them and as they are printed
  pub says_segments : (read' : ReadsStore Lenient tells disk) (next : ℕ) → next ≡ next_of read' → (reports' : List SegReport) (count : ℕ) (lines : List ℕ)
      → count ≡ length read'.batches → (IsTrue tells → AreReports (from_wal (wal_after read'.seen) (directories disk.before)) reports')
      → SameDisk disk.before disk.after → lines ≡ used_text read'.seen ++ segments_text reports' → text ≡ lines ++ recovered_end count next
      → ShowsSegments tells disk text
  says_segments read' next ends reports' count lines few are same' printed whole = record {
    read = read';
    reports = reports';
    reports_are = are;
    text_is = whole ∙ ap (λ (l : List ℕ). l ++ recovered_end count next) printed
        ∙ ap (λ (n : ℕ). used_text read'.seen ++ segments_text reports' ++ recovered_end n next) few
        ∙ ap (λ (n : ℕ). used_text read'.seen ++ segments_text reports' ++ recovered_end (length read'.batches) n) ends;
    same = same';
  }

  pub says_no_segments : (status : Status) → SaysUnrecovered Lenient tells disk status text → SaysDump tells disk status text
  says_no_segments = shows_unrecovered Lenient tells disk text (ShowsSegments tells disk text)

  -- ---- what has to come

  pub dump_told : (said : Status) → SaysDump tells disk said text → IsOfCommand said
  dump_told = shown_told Lenient tells disk text (ShowsSegments tells disk text)

  pub dump_due : (said : Status) → SaysDump tells disk said text → IsTheDue (DumpIsDue tells disk) said
  dump_due = shown_due Lenient tells disk text (ShowsSegments tells disk text) (λ h. h.read)

-- ---- what is left where nothing was done

pub dump_unrun : (tells : Bool) (disk : Change DiskView) → Stays disk → NothingInFlight disk.after → LeavesDump tells disk
dump_unrun tells disk untouched rests = record {
  polls = untouched_polls tells disk untouched;
  no_journal = untouched_journal tells disk untouched rests;
  same = untouched_same tells disk untouched;
}
