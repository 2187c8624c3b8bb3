-- What was gathered of segments, as rows that a merge is given and as reports.
use Rattle.wal_base.proofs.Laws.{within_head, within_tail}
use Rattle.std.proofs.Common.{◌≡◌, ℕ, List, [], ◌∷◌, map, Contains, length, subst, sym, ap, ◌∙◌, refl}
use Rattle.std.specs.List.{AllZip}
use Rattle.disk_face.specs.Image.{log_number}
use Rattle.batch_repr.specs.declared.batch.Batch.{Batch}
use Rattle.segment_merge.specs.Rows.{batches_in}
use Rattle.segment_merge.specs.Merging.{Merged}
use Rattle.disk_face.specs.View.{Files}
use Rattle.wal_recovery.specs.declared.listing.Found.{Found}
use Rattle.wal_recovery.specs.declared.reports.Mode.{Mode}
use Rattle.wal_recovery.specs.declared.reports.Mode.TheVariants.{Strict}
use Rattle.wal_recovery.specs.declared.reports.SegReport.{SegReport}
use Rattle.wal_recovery.specs.declared.wals.FoundWal.{FoundWal}
use Rattle.wal_recovery.specs.Listing.{Stored}
use Rattle.wal_recovery.specs.Recovering.{taking_numbers, HoldsBatches, HoldRow, WalMerges}
use Rattle.wal_recovery.specs.Refused.{by_index}
use Rattle.wal_recovery.specs.Reports.{IsReport}
use Rattle.wal_recovery.specs.Rows.{place_listed, bytes_at, stored_in, wal_in}
use Rattle.wal_recovery.specs.Gathered.{IsAsListed, IsReportOf, counted_in}
use Rattle.wal_recovery.proofs.HasLength.{bytes_are}

-- each segment with the report on it
abbrev pub AreReportsOf : Mode → Files → List Found → List SegReport → Type 0
AreReportsOf mode files segments own = AllZip (λ (f : Found) (r : SegReport). IsReportOf mode f (bytes_at files (place_listed f)) r) segments own

-- each segment is of this WAL
abbrev pub AreOfWal : ℕ → List Found → Type 0
AreOfWal number segments = (f : Found) → Contains segments f → f.name.wal ≡ number

pub report_holds : (mode : Mode) (number : ℕ) (f : Found) (bytes : List ℕ) (r : SegReport) → f.name.wal ≡ number → IsReportOf mode f bytes r
    → HoldsBatches mode (log_number number) bytes (taking_numbers r.batches)
report_holds mode number f bytes r is report =
    subst (λ (n : ℕ). HoldsBatches mode (log_number n) bytes (taking_numbers r.batches)) is
    (record {
      read = report.read;
      reads = report.reads;
      passes = report.passes;
      all = r.batches;
      spelled = report.batches;
      counted_are = refl;
    })

-- the segments of a WAL hold the batches of their reports
pub row_holds : (mode : Mode) (files : Files) (number : ℕ) (segments : List Found) (own : List SegReport) → AreOfWal number segments → AreReportsOf mode files segments own
    → HoldRow mode (log_number number) (map (stored_in files) segments) (counted_in own)
row_holds mode files number [] [] all h = tt
row_holds mode files number [] (r ∷ own) all h = absurd h
row_holds mode files number (f ∷ segments) [] all h = absurd h
row_holds mode files number (f ∷ segments) (r ∷ own) all h = (
  report_holds mode number f (bytes_at files (place_listed f)) r (all f (within_head f segments)) h.0,
  row_holds mode files number segments own (λ g at. all g (within_tail f segments g at)) h.1,
)

pub report_is : (mode : Mode) (files : Files) (number : ℕ) (f : Found) (r : SegReport) → f.name.wal ≡ number → IsAsListed files f
    → IsReportOf mode f (bytes_at files (place_listed f)) r → IsReport number (stored_in files f) r
report_is mode files number f r is listed report =
    subst (λ (n : ℕ). IsReport n (stored_in files f) r) is
    (record {
      side = report.side;
      name = report.name;
      len = report.len ∙ sym (listed.3) ∙ sym (ap length (bytes_are files (place_listed f) f.len listed));
      read = report.read;
      reads = report.reads;
      end_is = report.end_is;
      torn_is = report.torn_is;
      batches = report.batches;
    })

-- the reports are on the segments of a WAL
pub reports_on : (mode : Mode) (files : Files) (number : ℕ) (segments : List Found) (own : List SegReport) → AreOfWal number segments
    → ((f : Found) → Contains segments f → IsAsListed files f) → AreReportsOf mode files segments own
    → AllZip (IsReport number) (map (stored_in files) segments) own
reports_on mode files number [] [] all listed h = tt
reports_on mode files number [] (r ∷ own) all listed h = absurd h
reports_on mode files number (f ∷ segments) [] all listed h = absurd h
reports_on mode files number (f ∷ segments) (r ∷ own) all listed h = (
  report_is mode files number f r (all f (within_head f segments)) (listed f (within_head f segments)) h.0,
  reports_on mode files number segments own (λ g at. all g (within_tail f segments g at)) (λ g at. listed g (within_tail f segments g at)) h.1,
)

-- a row under indexes has the batches
pub batches_by_index : (mode : Mode) (log : ℕ) (segments : List Stored) (row : List (List Batch)) → HoldRow mode log segments row → batches_in (by_index segments row) ≡ row
batches_by_index mode log [] [] h = refl
batches_by_index mode log [] (b ∷ row) h = absurd h
batches_by_index mode log (s ∷ segments) [] h = absurd h
batches_by_index mode log (s ∷ segments) (b ∷ row) h = ap (λ (l : List (List Batch)). b ∷ l) (batches_by_index mode log segments row h.1)

-- so a WAL whose row was merged is merged
pub wal_merged : (files : Files) (first : ℕ) (wal : FoundWal) (own : List SegReport) (merged : List Batch)
    → AreOfWal wal.number wal.segments.items → AreReportsOf Strict files wal.segments.items own
    → Merged first (batches_in (by_index (map (stored_in files) wal.segments.items) (counted_in own))) merged → WalMerges first (wal_in files wal) merged
wal_merged files first wal own merged all h m =
    let holds = row_holds Strict files wal.number wal.segments.items own all h in
    record {
      row = counted_in own;
      holds = holds;
      merges = subst (λ (row : List (List Batch)). Merged first row merged)
          (batches_by_index Strict (log_number wal.number) (map (stored_in files) wal.segments.items) (counted_in own) holds) m;
    }
