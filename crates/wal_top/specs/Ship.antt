-- The command `ship`: the store's batches are written as a stream (docs/formats/program.md, "The text of a stream"; docs/formats/ship.md).
use Rattle.std.specs.Prelude.{◌≡◌, ◌⊎◌, ℕ, Bool, IsTrue, List, Option, Some, None, codes}
use Rattle.batch_repr.specs.declared.batch.Batch.{Batch}
use Rattle.disk_face.specs.View.{DiskView, files}
use Rattle.disk_face.specs.Image.{IsRested}
use Rattle.wal_recovery.specs.declared.reports.Mode.TheVariants.{Strict}
use Rattle.wal_recovery.specs.Rows.{files_from}
use Rattle.wal_recovery.specs.Resting.{OnlySynced, AreSegmentsStable}
use Rattle.flush_table.specs.declared.reports.TableSeen.{TableSeen}
use Rattle.flush_table.specs.Stores.{Used, wal_after}
use Rattle.wal_ship.specs.Stream.{stream_of}
use Rattle.script_runner.specs.Runs.{PollsNeverRise}
use Rattle.wal_top.specs.declared.status.Status.{Status}
use Rattle.wal_top.specs.declared.status.Status.TheVariants.{Done, Refused}
use Rattle.wal_top.specs.Call.{Change}
use Rattle.wal_top.specs.Recovery.{ReadsStore, SaysUnrecovered, RefusesDirectories, HasStoreToShow, IsToRefuse, WritesNoJournal}

-- the whole text where a table is used: the batches that stand for its keys are no log
abbrev pub refused_table_text : List ℕ
refused_table_text = codes "refused table\n"

-- The store of the directories, which begins with no table, was written as a stream.
pub record ShipsStore (tells : Bool) (disk : Change DiskView) (text : List ℕ) : Type 0 where
  pub read : ReadsStore Strict tells disk
  pub untabled : read.seen ≡ None
  pub text_is : text ≡ stream_of read.batches
  pub only_synced : IsTrue tells → OnlySynced (files disk.before) (files disk.after)
  pub stable : IsTrue tells → IsRested (files disk.before) → AreSegmentsStable (files_from (wal_after read.seen) (files disk.after))

-- The store of the directories begins with a table, so it was not written.
pub record RefusesTable (tells : Bool) (disk : Change DiskView) (text : List ℕ) : Type 0 where
  pub read : ReadsStore Strict tells disk
  pub seen : TableSeen
  pub tabled : read.seen ≡ Some seen
  pub text_is : text ≡ refused_table_text
  pub only_synced : IsTrue tells → OnlySynced (files disk.before) (files disk.after)

-- The disk tells directories that have a store which begins with no table, and counts no fault: so it has to be written.
abbrev pub HasStoreToShip : Bool → Change DiskView → Type 0
HasStoreToShip tells disk = (has : HasStoreToShow Strict tells disk) × (has.used ≡ None)

-- The same of a store that begins with a table: so that has to be said.
abbrev pub HasTableToRefuse : Bool → Change DiskView → Type 0
HasTableToRefuse tells disk = (has : HasStoreToShow Strict tells disk) × (used : Used) × (has.used ≡ Some used)

-- ---- what it says, when that has to come, and what it leaves

-- The store, as a stream; or why it is none: the table that it begins with, or that the directories do not recover.
abbrev pub SaysShip : Bool → Change DiskView → Status → List ℕ → Type 0
SaysShip tells disk Done text = ShipsStore tells disk text
SaysShip tells disk Refused text = RefusesTable tells disk text ⊎ RefusesDirectories Strict tells disk text
SaysShip tells disk status text = SaysUnrecovered Strict tells disk status text

abbrev pub ShipIsDue : Bool → Change DiskView → Status → Type 0
ShipIsDue tells disk Done = HasStoreToShip tells disk
ShipIsDue tells disk Refused = HasTableToRefuse tells disk ⊎ IsToRefuse Strict tells disk
ShipIsDue tells disk status = ⊥

pub record LeavesShip (tells : Bool) (disk : Change DiskView) : Type 0 where
  pub polls : PollsNeverRise disk.before disk.after
  pub no_journal : WritesNoJournal tells disk

-- ---- inside

-- What is said of a store that was read, by the table that it begins with.
abbrev pub SaysOfStore : Option TableSeen → List Batch → Status → List ℕ → Type 0
SaysOfStore None batches status text = (status ≡ Done) × (text ≡ stream_of batches)
SaysOfStore (Some seen) batches status text = (status ≡ Refused) × (text ≡ refused_table_text)
