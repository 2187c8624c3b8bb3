-- One WAL whose segments were read: its reports, what its row merges to, and why it is refused.
use Rattle.std.proofs.Common.{◌≡◌, ℕ, List, ◌∷◌, ◌++◌, IsTrue, map, Contains, Bool, subst, sym, ap, ◌∙◌, refl}
use Rattle.std.proofs.lemmas.List.{map-append}
use Rattle.std.proofs.lemmas.List.Elements.{All-contains, Contains-append_left, Contains-append_right}
use Rattle.disk_face.specs.Image.{log_number}
use Rattle.batch_repr.specs.declared.batch.Batch.{Batch}
use Rattle.batch_repr.specs.declared.fault.BatchFault.{BatchFault}
use Rattle.segment_merge.specs.declared.segment.SegmentRead.{SegmentRead}
use Rattle.segment_merge.specs.declared.fault.MergeFault.{MergeFault}
use Rattle.segment_merge.specs.declared.fault.MergeFault.TheVariants as merges
use Rattle.segment_merge.specs.Rows.{batches_in}
use Rattle.segment_merge.specs.Merging.{Merged}
use Rattle.segment_merge.specs.Refusals.{IsGap, IsConflict, IsRowRefused}
use Rattle.segment_merge.specs.Returned.{MemoryOrRefusal}
use Rattle.segment_merge.proofs.Laws.{within_head}
use Rattle.disk_face.specs.View.{Files, DiskView}
use Rattle.wal_recovery.specs.declared.fault.RecoverFault.{RecoverFault}
use Rattle.wal_recovery.specs.declared.fault.RecoverFault.TheVariants as faults
use Rattle.wal_recovery.specs.declared.listing.Found.{Found}
use Rattle.wal_recovery.specs.declared.reports.Mode.{Mode}
use Rattle.wal_recovery.specs.declared.reports.Mode.TheVariants.{Strict}
use Rattle.wal_recovery.specs.declared.reports.SegReport.{SegReport}
use Rattle.wal_recovery.specs.declared.wals.FoundWal.{FoundWal}
use Rattle.wal_recovery.specs.Recovering.{WalMerges}
use Rattle.wal_recovery.specs.Answers.{FaultRose, DiskMemoryOr}
use Rattle.wal_recovery.specs.Rows.{place_listed, bytes_at, stored_in, wal_in}
use Rattle.wal_recovery.specs.Gathered.{IsAsListed, AreAsListed, counted_in, AddsSegments, GathersWal, IsFirstBadOf, IsOwnWal, named_in_wal}
use Rattle.wal_recovery.specs.Refused.{HasBadRecord, IsShownCorrupt, IsFirstWrongSegment, IsBadBatch}
use Rattle.wal_recovery.specs.OneWal.{AddsReports, HoldsRow, IsRefusedWal}
use Rattle.wal_recovery.proofs.IsReportOf.{AreOfWal, row_holds, reports_on, wal_merged}

pub own_of : (wal : FoundWal) → IsOwnWal wal → AreOfWal wal.number wal.segments.items
own_of wal own f at = All-contains (λ (g : Found). g.name.wal ≡ wal.number) wal.segments.items f own at

-- a refusal of a merge is no fault of the disk
pub named_rose : (old new : DiskView) (wal : ℕ) (fault : MergeFault) → FaultRose old new (named_in_wal wal fault)
named_rose old new wal (merges.Gap index expected found) = tt
named_rose old new wal (merges.Conflict index first) = tt
named_rose old new wal merges.NoMemory = tt

module _ (tells : Bool) (files : Files) (wal : FoundWal) (own : IsOwnWal wal) where
  -- the reports on the WAL
  pub wal_reports : (mode : Mode) (old new : List SegReport) → AddsSegments tells mode files wal.segments.items old new → IsTrue tells
      → AreAsListed files wal.segments.items → AddsReports (wal_in files wal) old new
  wal_reports mode old new a told listed = record {
    own = a.own;
    reports = a.reports;
    on = reports_on mode files wal.number wal.segments.items a.own (own_of wal own)
        (λ f at. All-contains (IsAsListed files) wal.segments.items f listed at) (a.holds told listed);
  }

  -- what its row merges to
  pub row_merged : (old new : List SegReport) (row : List SegmentRead) (next : ℕ) (merged : List Batch)
      → GathersWal tells Strict files wal.segments.items old new row → Merged next (batches_in row) merged
      → IsTrue tells → AreAsListed files wal.segments.items → WalMerges next (wal_in files wal) merged
  row_merged old new row next merged g m told listed =
      wal_merged files next wal g.added.own merged (own_of wal own) (g.added.holds told listed)
      (subst (λ (r : List SegmentRead). Merged next (batches_in r) merged) g.rows m)

  -- what refuses a merge of its row refuses the WAL
  pub row_refused : (old new : List SegReport) (row : List SegmentRead) (next : ℕ) (fault : MergeFault)
      → GathersWal tells Strict files wal.segments.items old new row → MemoryOrRefusal (IsRowRefused next row) fault
      → IsTrue tells → AreAsListed files wal.segments.items → DiskMemoryOr (IsRefusedWal next (wal_in files wal)) (named_in_wal wal.number fault)
  row_refused old new row next fault g wrong told listed = go fault wrong
    where
      held : HoldsRow Strict (wal_in files wal)
      held = record {
        row = counted_in g.added.own;
        holds = row_holds Strict files wal.number wal.segments.items g.added.own (own_of wal own)
            (g.added.holds told listed);
      }

      go : (fault : MergeFault) → MemoryOrRefusal (IsRowRefused next row) fault
          → DiskMemoryOr (IsRefusedWal next (wal_in files wal)) (named_in_wal wal.number fault)
      go (merges.Gap index expected found) h = (refl, held, subst (λ (r : List SegmentRead). IsGap next r index expected found) g.rows h)
      go (merges.Conflict index first) h = (refl, held, subst (λ (r : List SegmentRead). IsConflict next r index first) g.rows h)
      go merges.NoMemory h = tt

  -- where the first segment that is wrong is
  first_wrong : (mode : Mode) (number index : ℕ) (fault : RecoverFault) (b : IsFirstBadOf mode files wal.segments.items fault) (Wrong : ℕ → List ℕ → Type 0)
      → index ≡ b.here.name.index → Wrong (log_number b.here.name.wal) (bytes_at files (place_listed b.here))
      → IsFirstWrongSegment mode (log_number wal.number) (map (stored_in files) wal.segments.items) index (Wrong (log_number wal.number))
  first_wrong mode number index fault b Wrong is wrong =
      let within = λ (f : Found) (at : Contains (b.before ++ b.here ∷ b.after) f). own_of wal own f (subst (λ (l : List Found). Contains l f) (sym b.cut) at) in
      let here : b.here.name.wal ≡ wal.number = within b.here (Contains-append_right b.before (b.here ∷ b.after) b.here (within_head b.here b.after)) in
      record {
        before = map (stored_in files) b.before;
        here = stored_in files b.here;
        after = map (stored_in files) b.after;
        segments_are = ap (map (stored_in files)) b.cut ∙ map-append (stored_in files) b.before (b.here ∷ b.after);
        index_is = is;
        rows = counted_in b.reports;
        right = row_holds mode files wal.number b.before b.reports (λ f at. within f (Contains-append_left b.before (b.here ∷ b.after) f at)) b.right;
        wrong = subst (λ (n : ℕ). Wrong (log_number n) (bytes_at files (place_listed b.here))) here wrong;
      }

  here_is : (mode : Mode) (fault : RecoverFault) (b : IsFirstBadOf mode files wal.segments.items fault) → b.here.name.wal ≡ wal.number
  here_is mode fault b = own_of wal own b.here (subst (λ (l : List Found). Contains l b.here) (sym b.cut)
      (Contains-append_right b.before (b.here ∷ b.after) b.here (within_head b.here b.after)))

  -- a bad record, in either mode
  pub bad_in_wal : (mode : Mode) (number index place : ℕ) (fault : BatchFault) → IsFirstBadOf mode files wal.segments.items (faults.BadBatch number index place fault)
      → (number ≡ wal.number) × IsBadBatch mode (log_number wal.number) (map (stored_in files) wal.segments.items) index place fault
  bad_in_wal mode number index place fault b = (
    b.bad.0 ∙ here_is mode (faults.BadBatch number index place fault) b,
    first_wrong mode number index (faults.BadBatch number index place fault) b (λ log. HasBadRecord log place fault) b.bad.1 b.bad.2,
  )

  pub bad_refused : (next : ℕ) (fault : RecoverFault) → IsFirstBadOf Strict files wal.segments.items fault → IsRefusedWal next (wal_in files wal) fault
  bad_refused next (faults.Disk side) b = absurd b.bad
  bad_refused next (faults.DuplicateSegment number index) b = absurd b.bad
  bad_refused next (faults.Gap number index expected found) b = absurd b.bad
  bad_refused next (faults.Conflict number index first) b = absurd b.bad
  bad_refused next faults.NoMemory b = absurd b.bad
  bad_refused next (faults.BadBatch number index place fault) b = bad_in_wal Strict number index place fault b
  bad_refused next (faults.Corrupt number index at shown_at) b = (
    b.bad.0 ∙ here_is Strict (faults.Corrupt number index at shown_at) b,
    first_wrong Strict number index (faults.Corrupt number index at shown_at) b (λ log. IsShownCorrupt log at shown_at) b.bad.1 b.bad.3,
  )

  -- and so does its first bad record
  pub read_refused : (next : ℕ) (fault : RecoverFault) → DiskMemoryOr (IsFirstBadOf Strict files wal.segments.items) fault
      → DiskMemoryOr (IsRefusedWal next (wal_in files wal)) fault
  read_refused next (faults.Disk side) h = tt
  read_refused next faults.NoMemory h = tt
  read_refused next (faults.DuplicateSegment number index) h = bad_refused next (faults.DuplicateSegment number index) h
  read_refused next (faults.BadBatch number index place fault) h = bad_refused next (faults.BadBatch number index place fault) h
  read_refused next (faults.Gap number index expected found) h = bad_refused next (faults.Gap number index expected found) h
  read_refused next (faults.Conflict number index first) h = bad_refused next (faults.Conflict number index first) h
  read_refused next (faults.Corrupt number index at shown_at) h = bad_refused next (faults.Corrupt number index at shown_at) h
