-- What recovery promises of the files of a disk, where it tells them, and of the disk (docs/formats/journal.md, "Recovery").
use Rattle.batch_repr.specs.declared.limits.TheConstants.{NUMBER_FIRST}
use Rattle.std.specs.Prelude.{◌≡◌, ℕ, ◌≤◌, Bool, List, [], ◌∷◌, length, take, map, All, Result, IfOk, IfErr, IsTrue}
use Rattle.batch_repr.specs.declared.batch.Batch.{Batch}
use Rattle.batch_repr.specs.Batches.{IsContiguous}
use Rattle.segment_merge.specs.declared.segment.SegmentRead.{SegmentRead}
use Rattle.segment_merge.specs.Lenient.{AreMergedOf}
use Rattle.wal_base.specs.Faults.{Rose}
use Rattle.disk_face.specs.declared.Side.{Side}
use Rattle.disk_face.specs.declared.Listed.{Listed}
use Rattle.disk_face.specs.View.{Dirs, DiskView, files, syncing, was_listed, Makes, AtEachMoment}
use Rattle.disk_face.specs.Image.{IsRested, directories}
use Rattle.disk_face.specs.Listing.{IsListing, HasLength}
use Rattle.disk_face.specs.Calls.{SameDisk, MayStart}
use Rattle.wal_recovery.specs.declared.fault.RecoverFault.{RecoverFault}
use Rattle.wal_recovery.specs.declared.listing.Found.{Found}
use Rattle.wal_recovery.specs.declared.listing.Sides.{Sides}
use Rattle.wal_recovery.specs.declared.merging.Merged.{Merged}
use Rattle.wal_recovery.specs.declared.reports.Mode.{Mode}
use Rattle.wal_recovery.specs.declared.reports.Mode.TheVariants.{Strict}
use Rattle.wal_recovery.specs.declared.reports.Recovered.{Recovered}
use Rattle.wal_recovery.specs.declared.reports.SegReport.{SegReport}
use Rattle.wal_recovery.specs.declared.reports.Start.{Start}
use Rattle.wal_recovery.specs.declared.wals.FoundWal.{FoundWal}
use Rattle.wal_recovery.specs.Listing.{AreByIndex, IsNextWal, from_wal}
use Rattle.wal_recovery.specs.Recovering.{WalMerges, WalsMerge, RecoversLenientAfter}
use Rattle.wal_recovery.specs.Base.{front_of, GoesOnFrom, AreWithinLimits}
use Rattle.wal_recovery.specs.Reports.{ReportOnAll, AreReports}
use Rattle.wal_recovery.specs.Resting.{AreSegmentsStable, IsSynced, OnlySynced, AddsNoImage}
use Rattle.wal_recovery.specs.Answers.{RecoversBy, RecoversByFrom, IsRefusedBy, IsRefusedByFrom, IsRefusal, DiskMemoryOr, OkOrFailed, ErrOrFailed}
use Rattle.wal_recovery.specs.Rows.{files_from, IsRowOf, place_listed, bytes_at, stored_in, wal_in, wals_in}
use Rattle.wal_recovery.specs.Gathered.{IsAsListed, AreAsListed, IsBadIn, GathersWal, AreReportsMerged, IsFirstBadOf, AreListedWals}
use Rattle.wal_recovery.specs.OneWal.{AddsReports, IsRefusedWal, IsLenientlyRefusedWal}
use Rattle.wal_recovery.specs.Asking.{ReadsOnly, names_given}

-- ---- what recovery answers

-- the directories, as they read, from the WAL on with which recovery begins
abbrev pub directories_from : Start → DiskView → Dirs
directories_from start v = from_wal start.wal (directories v)

-- The row has the segments of the disk's files from that WAL on, and nothing else.
abbrev pub IsRowFrom : Start → Bool → DiskView → List Found → Type 0
IsRowFrom start tells v row = IsTrue tells → IsRowOf (files_from start.wal (files v)) row

-- What was found is what the directories recover to.
abbrev pub IsWhatRecoversFrom : Start → Bool → Mode → DiskView → Recovered → Type 0
IsWhatRecoversFrom start tells mode v found = IsTrue tells → RecoversByFrom mode start.number start.base (directories_from start v) found.batches

-- Whatever the directories recover to is found, unless the disk failed or memory ran out.
abbrev pub FindsWhatRecoversFrom : Start → Bool → Mode → DiskView → Result Recovered RecoverFault → Type 0
FindsWhatRecoversFrom start tells mode v result =
    IsTrue tells → (batches : List Batch) → RecoversByFrom mode start.number start.base (directories_from start v) batches → OkOrFailed result batches

-- The directories are refused for this fault, or it is the disk's or out of memory.
abbrev pub IsReasonToRefuseFrom : Start → Bool → Mode → DiskView → RecoverFault → Type 0
IsReasonToRefuseFrom start tells mode v fault =
    IsTrue tells → DiskMemoryOr (IsRefusedByFrom mode start.number start.base (directories_from start v)) fault

-- Whatever the directories are refused for is answered, unless the disk failed or memory ran out.
abbrev pub AnswersRefusalFrom : Start → Bool → Mode → DiskView → Result Recovered RecoverFault → Type 0
AnswersRefusalFrom start tells mode v result =
    IsTrue tells → (fault : RecoverFault) → IsRefusedByFrom mode start.number start.base (directories_from start v) fault → ErrOrFailed result fault

-- Each segment of the directories is reported on.
abbrev pub ReportsOnSegmentsFrom : Start → Bool → DiskView → Recovered → Type 0
ReportsOnSegmentsFrom start tells v found = IsTrue tells → AreReports (directories_from start v) found.segments

-- Those behind the base begin with the first number, and no number is left out between them.
abbrev pub HasNoGapFrom : Start → Recovered → Type 0
HasNoGapFrom start found = GoesOnFrom start.number start.base found.batches

-- Where the batches of the base are within the limits, all batches are.
abbrev pub KeepsLimits : Start → Recovered → Type 0
KeepsLimits start found = AreWithinLimits start.base → AreWithinLimits found.batches

-- Where both sides list nothing, nothing happens.
abbrev pub IsQuietIfBare : Sides → DiskView → DiskView → Type 0
IsQuietIfBare sides old new = sides.primary ≡ [] → sides.secondary ≡ [] → SameDisk old new

-- ---- the same of all segments, from the first number of all

abbrev pub IsWhatRecovers : Bool → Mode → DiskView → Recovered → Type 0
IsWhatRecovers tells mode v found = IsTrue tells → RecoversBy mode (directories v) found.batches

abbrev pub FindsWhatRecovers : Bool → Mode → DiskView → Result Recovered RecoverFault → Type 0
FindsWhatRecovers tells mode v result = IsTrue tells → (merged : List Batch) → RecoversBy mode (directories v) merged → OkOrFailed result merged

abbrev pub IsReasonToRefuse : Bool → Mode → DiskView → RecoverFault → Type 0
IsReasonToRefuse tells mode v fault = IsTrue tells → DiskMemoryOr (IsRefusedBy mode (directories v)) fault

abbrev pub AnswersRefusal : Bool → Mode → DiskView → Result Recovered RecoverFault → Type 0
AnswersRefusal tells mode v result = IsTrue tells → (fault : RecoverFault) → IsRefusedBy mode (directories v) fault → ErrOrFailed result fault

abbrev pub ReportsOnSegments : Bool → DiskView → Recovered → Type 0
ReportsOnSegments tells v found = IsTrue tells → AreReports (directories v) found.segments

abbrev pub HasNoGap : Recovered → Type 0
HasNoGap found = IsContiguous NUMBER_FIRST found.batches

-- The number of the next WAL is that of the directories.
abbrev pub HasNextWal : Bool → DiskView → Recovered → Type 0
HasNextWal tells v found = IsTrue tells → IsNextWal (directories v) found.next_wal

-- ---- what happens to the files

-- At each moment of the call nothing has happened to any file but a sync.
abbrev pub OnlySyncsThroughout : Bool → DiskView → DiskView → Type 0
OnlySyncsThroughout tells old new = IsTrue tells → AtEachMoment old.clock new (OnlySynced (files old))

-- At each moment of the call a crash leaves only what it might have left before.
abbrev pub AddsNoImageThroughout : Bool → DiskView → DiskView → Type 0
AddsNoImageThroughout tells old new = IsTrue tells → AtEachMoment old.clock new (AddsNoImage (files old))

-- Where the files were at rest every segment from a WAL on is stable now.
abbrev pub StabilizesRestedFrom : Start → Bool → DiskView → DiskView → Type 0
StabilizesRestedFrom start tells old new = IsTrue tells → IsRested (files old) → AreSegmentsStable (files_from start.wal (files new))

-- Where no gap is accepted, and the files were at rest, every segment from a WAL on is stable now.
abbrev pub StabilizesIfStrictFrom : Start → Bool → Mode → DiskView → DiskView → Type 0
StabilizesIfStrictFrom start tells mode old new =
    IsTrue tells → mode ≡ Strict → IsRested (files old) → AreSegmentsStable (files_from start.wal (files new))

-- Where no gap is accepted, and the files were at rest, every segment is stable now.
abbrev pub StabilizesIfStrict : Bool → Mode → DiskView → DiskView → Type 0
StabilizesIfStrict tells mode old new = IsTrue tells → mode ≡ Strict → IsRested (files old) → AreSegmentsStable (files new)

-- Directories that are refused are not touched.
abbrev pub UntouchedIfRefused : DiskView → DiskView → RecoverFault → Type 0
UntouchedIfRefused old new fault = IsRefusal fault → SameDisk old new

-- ---- listings

-- The side was listed once, and this was given.
abbrev pub ListsSideOnce : Side → Result (List Listed) RecoverFault → DiskView → DiskView → Type 0
ListsSideOnce side given old new = Makes (was_listed side (names_given given) ∷ []) old new

-- The names are the listing of the side.
abbrev pub IsSideListing : Bool → DiskView → Side → List Listed → Type 0
IsSideListing tells v side names = IsTrue tells → IsListing (files v) side names

-- ---- one segment

-- A buffer of so many bytes is no longer than the segment: then only the segment is read.
abbrev pub ReadsIfWithin : ℕ → Found → DiskView → DiskView → Type 0
ReadsIfWithin len segment old new = len ≤ segment.len → ReadsOnly (segment ∷ []) old new

-- The count of faults of the side rose.
abbrev pub SideRose : Side → DiskView → DiskView → Type 0
SideRose side old new = Rose (old.faults side) (new.faults side)

-- The bytes are those of the segment, where that has this length.
abbrev pub AreBytesOf : Bool → DiskView → Found → ℕ → List ℕ → Type 0
AreBytesOf tells v segment len bytes = IsTrue tells → HasLength (files v) (place_listed segment) len → bytes ≡ bytes_at (files v) (place_listed segment)

-- So many bytes of the buffer are those of the segment, where that is as long as the buffer.
abbrev pub FillsBuffer : Bool → DiskView → Found → List ℕ → List ℕ → ℕ → Type 0
FillsBuffer tells v segment old new count = AreBytesOf tells v segment (length old) (take count new)

-- The fault is the first bad record of the segment, or that it is corrupt, or the disk's or out of memory.
abbrev pub IsBadSegment : Bool → Mode → DiskView → Found → RecoverFault → Type 0
IsBadSegment tells mode v segment fault = IsTrue tells → IsAsListed (files v) segment
    → DiskMemoryOr (IsBadIn mode segment (bytes_at (files v) (place_listed segment))) fault

-- ---- one WAL

-- The segments of the WAL are by index.
abbrev pub IsWalByIndex : DiskView → FoundWal → Type 0
IsWalByIndex v wal = AreByIndex 0 (map (stored_in (files v)) wal.segments.items)

-- The row is that of the WAL, whose reports are added.
abbrev pub IsRowOfWal : Bool → Mode → DiskView → FoundWal → List SegReport → List SegReport → List SegmentRead → Type 0
IsRowOfWal tells mode v wal old new row = GathersWal tells mode (files v) wal.segments.items old new row

-- The fault is the first bad record of the WAL, or that a segment of it is corrupt, or the disk's or out of memory.
abbrev pub IsBadWal : Bool → Mode → DiskView → FoundWal → RecoverFault → Type 0
IsBadWal tells mode v wal fault = IsTrue tells → AreAsListed (files v) wal.segments.items
    → DiskMemoryOr (IsFirstBadOf mode (files v) wal.segments.items) fault

-- The WAL merges to these batches, from this number on.
abbrev pub MergesWal : Bool → DiskView → FoundWal → ℕ → List Batch → Type 0
MergesWal tells v wal next own = IsTrue tells → AreAsListed (files v) wal.segments.items → WalMerges next (wal_in (files v) wal) own

-- The segments of the WAL are reported on, after the others.
abbrev pub ReportsOnWal : Bool → DiskView → FoundWal → List SegReport → List SegReport → Type 0
ReportsOnWal tells v wal old new = IsTrue tells → AreAsListed (files v) wal.segments.items → AddsReports (wal_in (files v) wal) old new

-- The WAL is refused from this number on, or the fault is the disk's or out of memory.
abbrev pub IsWalRefused : Bool → DiskView → FoundWal → ℕ → RecoverFault → Type 0
IsWalRefused tells v wal next fault = IsTrue tells → AreAsListed (files v) wal.segments.items → DiskMemoryOr (IsRefusedWal next (wal_in (files v) wal)) fault

-- Whatever row was merged so far: the WAL is refused after it with gaps, or the fault is the disk's or out of memory.
abbrev pub RefusesWalLeniently : Bool → DiskView → FoundWal → List Batch → Result (List Batch) RecoverFault → Type 0
RefusesWalLeniently tells v wal so_far result =
    (before : List SegmentRead) → AreMergedOf before so_far
    → IfErr result (λ fault. IsTrue tells → AreAsListed (files v) wal.segments.items → DiskMemoryOr (IsLenientlyRefusedWal before (wal_in (files v) wal)) fault)

-- Whatever front and reports were merged so far, what is answered is merged of them and of the reports added.
abbrev pub MergesReports : List SegReport → List SegReport → List Batch → Result (List Batch) RecoverFault → Type 0
MergesReports old new so_far result = (front : List SegmentRead) → AreReportsMerged front old so_far → IfOk result (AreReportsMerged front new)

-- ---- all WALs

-- The WALs merge, from this number on, to these batches, where they are those of directories.
abbrev pub MergesWals : Bool → DiskView → List FoundWal → ℕ → Merged → Type 0
MergesWals tells v wals first merged =
    IsTrue tells → (dirs : Dirs) → AreListedWals dirs (files v) wals → WalsMerge first (wals_in (files v) wals) merged.batches

-- The directories whose WALs they are recover with gaps, behind this base, to these batches.
abbrev pub MergesWalsLeniently : Bool → List Batch → DiskView → List FoundWal → Merged → Type 0
MergesWalsLeniently tells base v wals merged =
    IsTrue tells → (dirs : Dirs) → AreListedWals dirs (files v) wals → RecoversLenientAfter (front_of base) dirs merged.batches

-- Each segment of the WALs is reported on, where they are those of directories.
abbrev pub ReportsOnWals : Bool → DiskView → List FoundWal → List SegReport → Type 0
ReportsOnWals tells v wals reports =
    IsTrue tells → (dirs : Dirs) → AreListedWals dirs (files v) wals → ReportOnAll (wals_in (files v) wals) reports

-- The directories whose WALs they are are refused, or the fault is the disk's or out of memory.
abbrev pub AreWalsRefused : Bool → Mode → ℕ → List Batch → DiskView → List FoundWal → RecoverFault → Type 0
AreWalsRefused tells mode first base v wals fault =
    IsTrue tells → (dirs : Dirs) → AreListedWals dirs (files v) wals → DiskMemoryOr (IsRefusedByFrom mode first base dirs) fault

-- ---- syncs

-- The segment may be synced.
abbrev pub MaySync : Bool → DiskView → Found → Type 0
MaySync tells v segment = IsTrue tells → MayStart syncing (files v (place_listed segment))

-- Each of the segments may be synced.
abbrev pub MaySyncEach : Bool → DiskView → List Found → Type 0
MaySyncEach tells v segments = IsTrue tells → All (λ (f : Found). MayStart syncing (files v (place_listed f))) segments

-- All that was done of the segment is stable.
abbrev pub HasSyncedOne : Bool → DiskView → Found → Type 0
HasSyncedOne tells v segment = IsTrue tells → IsSynced (files v (place_listed segment))

-- All that was done of each of the segments is stable.
abbrev pub HasSyncedEach : Bool → DiskView → List Found → Type 0
HasSyncedEach tells v segments = IsTrue tells → All (λ (f : Found). IsSynced (files v (place_listed f))) segments
