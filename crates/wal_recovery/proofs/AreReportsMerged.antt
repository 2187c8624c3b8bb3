-- WALs that are merged one after another as one row, with gaps: their reports hold the row, and what refuses a WAL after it refuses the directories.
use Rattle.std.proofs.Common.{◌≡◌, ℕ, List, [], ◌∷◌, ◌++◌, All, IsTrue, Bool, length, map, take, subst, sym, ap, ◌∙◌, refl, arith, append_assoc}
use Rattle.std.specs.List.{AllZip, AllByRecursion}
use Rattle.std.proofs.lemmas.List.{map-append, append-nil}
use Rattle.std.proofs.lemmas.List.Elements.{All-append, All-nil, recursion_from_All}
use Rattle.batch_repr.specs.declared.batch.Batch.{Batch}
use Rattle.segment_merge.specs.declared.segment.SegmentRead.{SegmentRead}
use Rattle.segment_merge.specs.declared.fault.MergeFault.{MergeFault}
use Rattle.segment_merge.specs.declared.fault.MergeFault.TheVariants as merges
use Rattle.segment_merge.specs.Rows.{IsNumbered, IsNumberedSegment, batches_in}
use Rattle.segment_merge.specs.Lenient.{MergedLenient, AreMergedOf, IsLenientConflict}
use Rattle.segment_merge.specs.Lenient as lenient
use Rattle.segment_merge.specs.Returned.{MemoryOrRefusal}
use Rattle.disk_face.specs.View.{Files, Dirs}
use Rattle.disk_face.specs.Image.{log_number}
use Rattle.wal_recovery.specs.declared.fault.RecoverFault.{RecoverFault}
use Rattle.wal_recovery.specs.declared.fault.RecoverFault.TheVariants as faults
use Rattle.wal_recovery.specs.declared.reports.Mode.TheVariants.{Strict, Lenient}
use Rattle.wal_recovery.specs.declared.reports.SegReport.{SegReport}
use Rattle.wal_recovery.specs.declared.wals.FoundWal.{FoundWal}
use Rattle.wal_recovery.specs.Listing.{Stored, Wal, IsListingOf}
use Rattle.wal_recovery.specs.Recovering.{taking_numbers, HoldRow, HoldAll}
use Rattle.wal_recovery.specs.Refused.{by_index, segments_of, ReachesLenient, IsLenientlyRefusedAfter}
use Rattle.wal_recovery.specs.Reports.{IsReport, ReportOnAll}
use Rattle.wal_recovery.specs.Answers.{DiskMemoryOr}
use Rattle.wal_recovery.specs.Rows.{stored_in, wal_in, wals_in}
use Rattle.wal_recovery.specs.Gathered.{AreAsListed, IsNumberedReport, counted_in, read_as, GathersWal, AreReportsMerged, IsFirstBadOf, IsOwnWal, AreListedWals, named_in_wal}
use Rattle.wal_recovery.specs.OneWal.{HoldsRow, IsLenientlyRefusedWal}
use Rattle.wal_recovery.proofs.IsReportOf.{row_holds, batches_by_index}
use Rattle.wal_recovery.proofs.GathersWal.{counted_length, stored_length}
use Rattle.wal_recovery.proofs.AtWal.{StandsAt, cut_at, listed_at}
use Rattle.wal_recovery.proofs.OneWal.{own_of, bad_in_wal}
use Rattle.wal_recovery.proofs.ReportOnAll.{lenient_numbered}

-- ---- reports hold the row of their segments

wal_holds : (number : ℕ) (segments : List Stored) (own : List SegReport) → AllZip (IsReport number) segments own
    → HoldRow Lenient (log_number number) segments (counted_in own)
wal_holds number [] [] on = tt
wal_holds number [] (r ∷ own) on = absurd on
wal_holds number (s ∷ segments) [] on = absurd on
wal_holds number (s ∷ segments) (r ∷ own) on = (
  record {
    read = on.0.read;
    reads = on.0.reads;
    passes = tt;
    all = r.batches;
    spelled = on.0.batches;
    counted_are = refl;
  },
  wal_holds number segments own on.1,
)

counted_append : (old own : List SegReport) → counted_in (old ++ own) ≡ counted_in old ++ counted_in own
counted_append old own = map-append (λ (r : SegReport). taking_numbers r.batches) old own

pub reports_hold : (wals : List Wal) (reports : List SegReport) → ReportOnAll wals reports → HoldAll wals (counted_in reports)
unfolding HoldAll ReportOnAll
reports_hold [] reports h = ap counted_in h
reports_hold (wal ∷ wals) reports (own, later, on, rest, is) =
    (counted_in own, counted_in later, wal_holds wal.number wal.segments own on, reports_hold wals later rest, ap counted_in is ∙ counted_append own later)

-- ---- rows under indexes

pub by_index_append : (log : ℕ) (segments more : List Stored) (own later : List (List Batch)) → HoldRow Lenient log segments own
    → by_index (segments ++ more) (own ++ later) ≡ by_index segments own ++ by_index more later
by_index_append log [] more [] later h = refl
by_index_append log [] more (b ∷ own) later h = absurd h
by_index_append log (s ∷ segments) more [] later h = absurd h
by_index_append log (s ∷ segments) more (b ∷ own) later h = ap (λ (l : List SegmentRead). record { index = s.index; batches = b } ∷ l)
    (by_index_append log segments more own later h.1)

pub batches_by_length : (segments : List Stored) (row : List (List Batch)) → length row ≡ length segments → batches_in (by_index segments row) ≡ row
batches_by_length [] [] e = refl
batches_by_length [] (b ∷ row) e = absurd (omega (arith, e))
batches_by_length (s ∷ segments) [] e = absurd (omega (arith, e))
batches_by_length (s ∷ segments) (b ∷ row) e = ap (λ (l : List (List Batch)). b ∷ l) (batches_by_length segments row (omega (arith, e)))

batches_append : (before row : List SegmentRead) → batches_in (before ++ row) ≡ batches_in before ++ batches_in row
batches_append before row = map-append (λ (s : SegmentRead). s.batches) before row

-- the row of all WALs has the batches that they hold
pub all_batches : (wals : List Wal) (rows : List (List Batch)) → HoldAll wals rows → batches_in (by_index (segments_of wals) rows) ≡ rows
unfolding HoldAll
all_batches [] rows h = sym h
all_batches (wal ∷ wals) rows (own, later, here, rest, is) =
    ap (λ (r : List (List Batch)). batches_in (by_index (wal.segments ++ segments_of wals) r)) is
    ∙ ap batches_in (by_index_append (log_number wal.number) wal.segments (segments_of wals) own later here)
    ∙ batches_append (by_index wal.segments own) (by_index (segments_of wals) later)
    ∙ ap (λ (r : List (List Batch)). r ++ batches_in (by_index (segments_of wals) later)) (batches_by_index Lenient (log_number wal.number) wal.segments own here)
    ∙ ap (λ (r : List (List Batch)). own ++ r) (all_batches wals later rest)
    ∙ sym is

-- ---- reports that are merged

-- the reports as a row
abbrev pub as_row : List SegReport → List SegmentRead
as_row reports = map (read_as 0) reports

row_counted : (reports : List SegReport) → batches_in (as_row reports) ≡ counted_in reports
row_counted [] = refl
row_counted (r ∷ reports) = ap (λ (l : List (List Batch)). taking_numbers r.batches ∷ l) (row_counted reports)

row_numbered : (reports : List SegReport) → AllByRecursion IsNumberedReport reports → AllByRecursion IsNumberedSegment (as_row reports)
row_numbered [] h = tt
row_numbered (r ∷ reports) h = (h.0, row_numbered reports h.1)

-- the front and the reports as a row
front_counted : (front : List SegmentRead) (reports : List SegReport) → batches_in (front ++ as_row reports) ≡ batches_in front ++ counted_in reports
front_counted front reports = batches_append front (as_row reports) ∙ ap (λ (l : List (List Batch)). batches_in front ++ l) (row_counted reports)

front_numbered : (front row : List SegmentRead) → AllByRecursion IsNumberedSegment front → AllByRecursion IsNumberedSegment row
    → AllByRecursion IsNumberedSegment (front ++ row)
front_numbered [] row h k = k
front_numbered (s ∷ front) row h k = (h.0, front_numbered front row h.1 k)

pub reports_none : (front : List SegmentRead) (reports : List SegReport) (merged : List Batch) → reports ≡ [] → AreMergedOf front merged
    → All IsNumberedSegment front → AreReportsMerged front reports merged
reports_none front reports merged none m all = subst (λ (l : List SegReport). AreReportsMerged front l merged) (sym none) (record {
  merges = subst (λ (rows : List (List Batch)). MergedLenient rows merged) (sym (append-nil (batches_in front))) m;
  before = all;
  numbered = All-nil IsNumberedReport;
})

pub reports_merged_of : (front : List SegmentRead) (reports : List SegReport) (merged : List Batch) → AreReportsMerged front reports merged
    → AreMergedOf (front ++ as_row reports) merged
reports_merged_of front reports merged a = subst (λ (rows : List (List Batch)). MergedLenient rows merged) (sym (front_counted front reports)) a.merges

pub reports_numbered : (front : List SegmentRead) (reports : List SegReport) (merged : List Batch) → AreReportsMerged front reports merged
    → All IsNumbered merged
reports_numbered front reports merged a = lenient_numbered (front ++ as_row reports) merged
    (front_numbered front (as_row reports) (recursion_from_All IsNumberedSegment front a.before)
    (row_numbered reports (recursion_from_All IsNumberedReport reports a.numbered))) (reports_merged_of front reports merged a)

module _ (tells : Bool) (files : Files) where
  -- with one WAL more
  pub reports_more : (front : List SegmentRead) (wal : FoundWal) (old new : List SegReport) (row : List SegmentRead) (merged longer : List Batch)
      → GathersWal tells Lenient files wal.segments.items old new row → AreReportsMerged front old merged
      → AreMergedOf ((front ++ as_row old) ++ row) longer → AreReportsMerged front new longer
  reports_more front wal old new row merged longer g a m = record {
    merges =
        let own = g.added.own in
        let many : length (counted_in own) ≡ length (map (stored_in files) wal.segments.items) = counted_length tells Lenient files own
        ∙ g.added.as_many ∙ sym (stored_length tells Lenient files wal.segments.items) in
        let is : batches_in ((front ++ as_row old) ++ row) ≡ batches_in front ++ counted_in new =
        ap batches_in (append_assoc front (as_row old) row)
        ∙ batches_append front (as_row old ++ row)
        ∙ ap (λ (l : List (List Batch)). batches_in front ++ l) (batches_append (as_row old) row
        ∙ ap (λ (r : List (List Batch)). r ++ batches_in row) (row_counted old)
        ∙ ap (λ (r : List SegmentRead). counted_in old ++ batches_in r) g.rows
        ∙ ap (λ (r : List (List Batch)). counted_in old ++ r) (batches_by_length (map (stored_in files) wal.segments.items) (counted_in own) many)
        ∙ sym (counted_append old own)
        ∙ ap counted_in (sym g.added.reports)) in
        subst (λ (rows : List (List Batch)). MergedLenient rows longer) is m;
    before = a.before;
    numbered = subst (All IsNumberedReport) (sym g.added.reports) (All-append IsNumberedReport old g.added.own a.numbered g.added.numbered);
  }

  module _ (wal : FoundWal) (own : IsOwnWal wal) where
    -- what refuses a merge of its row refuses the WAL
    pub row_refused_behind : (before : List SegmentRead) (old new : List SegReport) (row : List SegmentRead) (fault : MergeFault)
        → GathersWal tells Lenient files wal.segments.items old new row → MemoryOrRefusal (lenient.IsRowLenientlyRefused (before ++ row)) fault
        → IsTrue tells → AreAsListed files wal.segments.items → DiskMemoryOr (IsLenientlyRefusedWal before (wal_in files wal)) (named_in_wal wal.number fault)
    row_refused_behind before old new row fault g wrong told listed = go fault wrong
      where
        held : HoldsRow Lenient (wal_in files wal)
        held = record {
          row = counted_in g.added.own;
          holds = row_holds Lenient files wal.number wal.segments.items g.added.own (own_of wal own)
              (g.added.holds told listed);
        }

        go : (fault : MergeFault) → MemoryOrRefusal (lenient.IsRowLenientlyRefused (before ++ row)) fault
            → DiskMemoryOr (IsLenientlyRefusedWal before (wal_in files wal)) (named_in_wal wal.number fault)
        go (merges.Gap index expected found) h = absurd h
        go (merges.Conflict index first) h = (refl, held, subst (λ (r : List SegmentRead). IsLenientConflict (before ++ r) index first) g.rows h)
        go merges.NoMemory h = tt

    -- and so does its first bad record
    pub read_refused_behind : (before : List SegmentRead) (fault : RecoverFault)
        → DiskMemoryOr (IsFirstBadOf Lenient files wal.segments.items) fault → DiskMemoryOr (IsLenientlyRefusedWal before (wal_in files wal)) fault
    read_refused_behind before (faults.Disk side) h = tt
    read_refused_behind before faults.NoMemory h = tt
    read_refused_behind before (faults.DuplicateSegment number index) h = absurd h.bad
    read_refused_behind before (faults.BadBatch number index place fault) h = bad_in_wal tells files wal own Lenient number index place fault h
    read_refused_behind before (faults.Gap number index expected found) h = absurd h.bad
    read_refused_behind before (faults.Corrupt number index at_place shown_at) h = let no : Lenient ≡ Strict = h.bad.2 in absurd cc
    read_refused_behind before (faults.Conflict number index first) h = absurd h.bad

-- ---- what refuses a WAL after those before it refuses the directories

module _ (files : Files) (wals : List FoundWal) (i : ℕ) (wal : FoundWal) (at : StandsAt wals i wal) where
  pub refused_behind : (front : List SegmentRead) (dirs : Dirs) (reports : List SegReport) (base : List Batch) (fault : RecoverFault)
      → ReportOnAll (wals_in files (take i wals)) reports → AreReportsMerged front reports base
      → ((before : List SegmentRead) → AreMergedOf before base → AreAsListed files wal.segments.items
      → DiskMemoryOr (IsLenientlyRefusedWal before (wal_in files wal)) fault)
      → AreListedWals dirs files wals → DiskMemoryOr (IsLenientlyRefusedAfter front dirs) fault
  refused_behind front dirs reports base fault on a wrong listed = go fault (wrong earlier merged (listed_at files wals i wal at dirs listed))
    where
      hold : HoldAll (wals_in files (take i wals)) (counted_in reports)
      hold = reports_hold (wals_in files (take i wals)) reports on

      reached : ReachesLenient front dirs wal.number (map (stored_in files) wal.segments.items)
      reached =
          let cut = cut_at files wals i wal at.within at.is in
          record {
            before = wals_in files (take i wals);
            after = cut.0;
            listed = subst (IsListingOf dirs) cut.1 listed.listed;
            rows = counted_in reports;
            hold = hold;
            base = base;
            merges = a.merges;
          }

      earlier : List SegmentRead
      earlier = front ++ by_index (segments_of (wals_in files (take i wals))) (counted_in reports)

      merged : AreMergedOf earlier base
      merged = subst (λ (rows : List (List Batch)). MergedLenient rows base)
          (sym (batches_append front (by_index (segments_of (wals_in files (take i wals))) (counted_in reports))
          ∙ ap (λ (l : List (List Batch)). batches_in front ++ l) (all_batches (wals_in files (take i wals)) (counted_in reports) hold))) a.merges

      go : (fault : RecoverFault) → DiskMemoryOr (IsLenientlyRefusedWal earlier (wal_in files wal)) fault
          → DiskMemoryOr (IsLenientlyRefusedAfter front dirs) fault
      go (faults.Disk side) h = tt
      go (faults.DuplicateSegment number index) h = absurd h
      go (faults.BadBatch number index place bad) h =
          subst (λ (n : ℕ). IsLenientlyRefusedAfter front dirs (faults.BadBatch n index place bad)) (sym h.0)
          (record { segments = map (stored_in files) wal.segments.items; reached = reached; bad = h.1 })
      go (faults.Gap number index expected found) h = absurd h
      go (faults.Corrupt number index at_place shown_at) h = absurd h
      go (faults.Conflict number index first) h =
          subst (λ (n : ℕ). IsLenientlyRefusedAfter front dirs (faults.Conflict n index first)) (sym h.0)
          (record { segments = map (stored_in files) wal.segments.items; reached = reached; own = h.1.row; holds = h.1.holds; wrong = h.2 })
      go faults.NoMemory h = tt
