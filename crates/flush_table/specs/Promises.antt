-- What is promised of a store that is read (docs/formats/table.md, "The store").
use Rattle.std.specs.Prelude.{◌≡◌, Bool, List, Option, Result, Ok, Err, IsTrue}
use Rattle.batch_repr.specs.declared.batch.Batch.{Batch}
use Rattle.batch_repr.specs.Batches.{end_after}
use Rattle.disk_face.specs.View.{DiskView, files}
use Rattle.disk_face.specs.Image.{IsRested, directories}
use Rattle.disk_face.specs.Listing.{AreTablesAscending, AreTableNumbers, IsTableListing}
use Rattle.wal_recovery.specs.declared.fault.RecoverFault.{RecoverFault}
use Rattle.wal_recovery.specs.declared.fault.RecoverFault.TheVariants as faults
use Rattle.wal_recovery.specs.declared.listing.Sides.{Sides}
use Rattle.wal_recovery.specs.declared.reports.Mode.{Mode}
use Rattle.wal_recovery.specs.declared.reports.Mode.TheVariants.{Strict}
use Rattle.wal_recovery.specs.Listing.{from_wal}
use Rattle.wal_recovery.specs.Base.{BeginsWith, GoesOnFrom}
use Rattle.wal_recovery.specs.Reports.{AreReports}
use Rattle.wal_recovery.specs.Promises.{IsQuietIfBare}
use Rattle.wal_recovery.specs.Resting.{AreSegmentsStable}
use Rattle.wal_recovery.specs.Answers.{DiskMemoryOr}
use Rattle.wal_recovery.specs.Rows.{files_from}
use Rattle.wal_recovery.specs.Sides.{AreSideNames, AreListings}
use Rattle.flush_table.specs.declared.reports.StoreRead.{StoreRead}
use Rattle.flush_table.specs.Stores.{Used, StoreOf, IsStoreRefused, IsNextWalOfStore, TellsUsed, wal_after, table_from, number_after, IsBaseSeen, IsNumberedBefore}
use Rattle.flush_table.specs.Asked.{ListsAllInTurn, ReadsNoneBelow}

-- ---- what is answered

-- What was found is the store of the directories, and what was seen tells of the used table.
abbrev pub IsStoreRead : Bool → Mode → DiskView → StoreRead → Type 0
IsStoreRead tells mode v found =
    IsTrue tells → (used : Option Used) × StoreOf mode (directories v) used found.batches × TellsUsed used found.table

-- It is these batches, over this table, unless the disk failed or memory ran out.
abbrev pub FoundOrFailed : Result StoreRead RecoverFault → Option Used → List Batch → Type 0
FoundOrFailed (Ok found) used batches = (found.batches ≡ batches) × TellsUsed used found.table
FoundOrFailed (Err (faults.Disk side)) used batches = Unit {0}
FoundOrFailed (Err faults.NoMemory) used batches = Unit {0}
FoundOrFailed (Err fault) used batches = ⊥

-- It is this refusal, unless the disk failed or memory ran out.
abbrev pub RefusedOrFailed : {T : Type 0} → Result T RecoverFault → RecoverFault → Type 0
RefusedOrFailed (Ok found) refusal = ⊥
RefusedOrFailed (Err (faults.Disk side)) refusal = Unit {0}
RefusedOrFailed (Err faults.NoMemory) refusal = Unit {0}
RefusedOrFailed (Err fault) refusal = fault ≡ refusal

-- Whatever store the directories have is found, unless the disk failed or memory ran out.
abbrev pub FindsStore : Bool → Mode → DiskView → Result StoreRead RecoverFault → Type 0
FindsStore tells mode v result =
    IsTrue tells → (used : Option Used) (batches : List Batch) → StoreOf mode (directories v) used batches → FoundOrFailed result used batches

-- The directories have no store for this fault, or it is the disk's or out of memory.
abbrev pub IsReasonToRefuseStore : Bool → Mode → DiskView → RecoverFault → Type 0
IsReasonToRefuseStore tells mode v fault = IsTrue tells → DiskMemoryOr (IsStoreRefused mode (directories v)) fault

-- Whatever the directories are refused for is answered, unless the disk failed or memory ran out.
abbrev pub AnswersStoreRefusal : {T : Type 0} → Bool → Mode → DiskView → Result T RecoverFault → Type 0
AnswersStoreRefusal tells mode v result =
    IsTrue tells → (fault : RecoverFault) → IsStoreRefused mode (directories v) fault → RefusedOrFailed result fault

-- Each segment above the used table is reported on.
abbrev pub ReportsOnStore : Bool → DiskView → StoreRead → Type 0
ReportsOnStore tells v found = IsTrue tells → AreReports (from_wal (wal_after found.table) (directories v)) found.segments

-- The number that comes next is that after the last batch; where there is none, the one that the segments go on from.
abbrev pub HasNext : StoreRead → Type 0
HasNext found = found.next ≡ end_after (number_after found.table) found.batches

-- The number of the next WAL is that of the directories.
abbrev pub HasNextWalOfStore : Bool → DiskView → StoreRead → Type 0
HasNextWalOfStore tells v found = IsTrue tells → IsNextWalOfStore (directories v) found.next_wal

-- ---- the batches, also where the disk does not tell its files

-- They begin with the batches of the table that was seen.
abbrev pub BeginsWithSeen : StoreRead → Type 0
BeginsWithSeen found = (base : List Batch) × IsBaseSeen found.table base × BeginsWith base found.batches

-- Those behind them begin with the number that comes next after that table, and no number is left out between them.
abbrev pub HasNoGapBehindSeen : StoreRead → Type 0
HasNoGapBehindSeen found = (base : List Batch) × IsBaseSeen found.table base × GoesOnFrom (number_after found.table) base found.batches

-- They are numbered one after another, from the first number of all or above, and end before the number that comes next.
abbrev pub EndsAtNext : StoreRead → Type 0
EndsAtNext found = IsNumberedBefore found.next found.batches

-- ---- listings

-- the listings of both sides
abbrev pub sides_of : StoreRead → Sides
sides_of found = record { primary = found.primary; secondary = found.secondary }

-- The tables ascend, and so do the names of each side; all have the names of tables and of segments.
pub record AreStoreNames (found : StoreRead) : Type 0 where
  pub ascend : AreTablesAscending found.tables
  pub numbers : AreTableNumbers found.tables
  pub sides : AreSideNames (sides_of found)

-- They are the listings of these files.
pub record AreStoreListings (tells : Bool) (v : DiskView) (found : StoreRead) : Type 0 where
  pub tables : IsTrue tells → IsTableListing (files v) found.tables
  pub sides : IsTrue tells → AreListings (files v) (sides_of found)

-- They are what the disk answered when it was asked first, the tables before both sides, and it is asked for no listing later.
abbrev pub ListsStore : DiskView → DiskView → StoreRead → Type 0
ListsStore old new found = ListsAllInTurn found.tables found.primary found.secondary old new

-- Of a segment or a table that the used table makes needless, no byte is asked for: of a WAL up to it, and of a number below it.
abbrev pub ReadsNoneCovered : DiskView → DiskView → StoreRead → Type 0
ReadsNoneCovered old new found = ReadsNoneBelow (wal_after found.table) (table_from found.table) old new

-- ---- what happens to the files

-- Where no gap is accepted, and the files were at rest, every segment above the used table is stable now.
abbrev pub StabilizesStoreIfStrict : Bool → Mode → DiskView → DiskView → StoreRead → Type 0
StabilizesStoreIfStrict tells mode old new found =
    IsTrue tells → mode ≡ Strict → IsRested (files old) → AreSegmentsStable (files_from (wal_after found.table) (files new))

-- Where no segment is listed, nothing happens to any file.
abbrev pub IsQuietIfNoSegment : DiskView → DiskView → StoreRead → Type 0
IsQuietIfNoSegment old new found = IsQuietIfBare (sides_of found) old new
