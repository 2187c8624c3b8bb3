-- What is said where the directories do not recover, and what recovery leaves (docs/formats/program.md, "Statuses" and "Refused directories").
use Rattle.std.specs.Prelude.{◌≡◌, ℕ, Bool, IsTrue, List, [], Option}
use Rattle.std.specs.Prelude.{codes}
use Rattle.wal_base.specs.Faults.{Rose}
use Rattle.batch_repr.specs.declared.batch.Batch.{Batch}
use Rattle.batch_repr.specs.Batches.{end_after}
use Rattle.disk_face.specs.declared.Side.{Side}
use Rattle.disk_face.specs.declared.Side.TheVariants.{Primary, Secondary}
use Rattle.disk_face.specs.View.{DiskView, files, NothingInFlight, AtEachMoment}
use Rattle.disk_face.specs.Image.{directories}
use Rattle.disk_face.specs.Calls.{SameDisk}
use Rattle.text_lines.specs.Refusals.{duplicate_line, bad_batch_line, gap_line, conflict_line, corrupt_line}
use Rattle.wal_recovery.specs.declared.reports.Mode.{Mode}
use Rattle.wal_recovery.specs.declared.fault.RecoverFault.{RecoverFault}
use Rattle.wal_recovery.specs.declared.fault.RecoverFault.TheVariants as faults
use Rattle.wal_recovery.specs.Listing.{name_in}
use Rattle.wal_recovery.specs.Resting.{OnlySynced, AddsNoImage}
use Rattle.wal_recovery.specs.Answers.{IsRefusal}
use Rattle.flush_table.specs.declared.reports.TableSeen.{TableSeen}
use Rattle.flush_table.specs.Stores.{Used, StoreOf, IsStoreRefused, TellsUsed, number_after}
use Rattle.wal_top.specs.declared.status.Status.{Status}
use Rattle.wal_top.specs.declared.status.Status.TheVariants.{Done, Disk, Refused}
use Rattle.wal_top.specs.Call.{Change, IsCalmDisk}

-- the whole text where one of the directories could not be listed, read or synced
abbrev pub disk_fault_text : Side → List ℕ
disk_fault_text Primary = codes "disk fault primary\n"
disk_fault_text Secondary = codes "disk fault secondary\n"

-- the whole text where the directories are refused (a fault of a side and out of memory are no refusals)
abbrev pub refusal_text : RecoverFault → List ℕ
refusal_text (faults.Disk side) = []
refusal_text (faults.DuplicateSegment wal index) = duplicate_line (name_in wal index)
refusal_text (faults.BadBatch wal index place fault) = bad_batch_line (name_in wal index) place fault
refusal_text (faults.Gap wal index expected found) = gap_line (name_in wal index) expected found
refusal_text (faults.Conflict wal index first) = conflict_line (name_in wal index) first
refusal_text faults.NoMemory = []
refusal_text (faults.Corrupt wal index at shown_at) = corrupt_line (name_in wal index) at shown_at

-- A side failed in recovery, and is named. No file was begun, and nothing is in flight.
pub record FailsRecovery (tells : Bool) (disk : Change DiskView) (text : List ℕ) : Type 0 where
  pub side : Side
  pub failed : Rose (disk.before.faults side) (disk.after.faults side)
  pub text_is : text ≡ disk_fault_text side
  pub only_synced : IsTrue tells → OnlySynced (files disk.before) (files disk.after)
  pub idle : NothingInFlight disk.after

-- The directories are refused, with this text. Nothing was done to them.
pub record RefusesDirectories (mode : Mode) (tells : Bool) (disk : Change DiskView) (text : List ℕ) : Type 0 where
  pub fault : RecoverFault
  pub real : IsRefusal fault
  pub refused : IsTrue tells → IsStoreRefused mode (directories disk.before) fault
  pub text_is : text ≡ refusal_text fault
  pub same : SameDisk disk.before disk.after

-- What is said of directories that do not recover, by its status.
abbrev pub SaysUnrecovered : Mode → Bool → Change DiskView → Status → List ℕ → Type 0
SaysUnrecovered mode tells disk Disk text = FailsRecovery tells disk text
SaysUnrecovered mode tells disk Refused text = RefusesDirectories mode tells disk text
SaysUnrecovered mode tells disk status text = ⊥

-- The disk tells directories that are refused, and counts no fault: so it has to be said.
pub record IsToRefuse (mode : Mode) (tells : Bool) (disk : Change DiskView) : Type 0 where
  pub told : IsTrue tells
  pub fault : RecoverFault
  pub refused : IsStoreRefused mode (directories disk.before) fault
  pub calm : IsCalmDisk disk

-- ---- the store

-- The directories were read as a store: its batches, the table that it begins with, and what was seen of that.
pub record ReadsStore (mode : Mode) (tells : Bool) (disk : Change DiskView) : Type 0 where
  pub batches : List Batch
  pub used : Option Used
  pub seen : Option TableSeen
  pub store : IsTrue tells → StoreOf mode (directories disk.before) used batches
  pub tells_used : IsTrue tells → TellsUsed used seen

-- the number that comes next in it
abbrev pub next_of : {mode : Mode} → {tells : Bool} → {disk : Change DiskView} → ReadsStore mode tells disk → ℕ
next_of read = end_after (number_after read.seen) read.batches

-- The disk tells directories that have a store, and counts no fault: so it has to be shown.
pub record HasStoreToShow (mode : Mode) (tells : Bool) (disk : Change DiskView) : Type 0 where
  pub told : IsTrue tells
  pub used : Option Used
  pub batches : List Batch
  pub store : StoreOf mode (directories disk.before) used batches
  pub calm : IsCalmDisk disk

-- ---- of a command that shows what the directories recover to

-- It shows that, at status 0, or says why they do not recover.
abbrev pub SaysShown : Mode → Bool → Change DiskView → Type 0 → Status → List ℕ → Type 0
SaysShown mode tells disk Shows Done text = Shows
SaysShown mode tells disk Shows status text = SaysUnrecovered mode tells disk status text

abbrev pub ShownIsDue : Mode → Bool → Change DiskView → Status → Type 0
ShownIsDue mode tells disk Done = HasStoreToShow mode tells disk
ShownIsDue mode tells disk Refused = IsToRefuse mode tells disk
ShownIsDue mode tells disk status = ⊥

-- Without a journal nothing happens to a file but a sync, a crash at any moment leaves what one before the run might have left, and
-- nothing is left in flight.
pub record WritesNoJournal (tells : Bool) (disk : Change DiskView) : Type 0 where
  pub only_synced : IsTrue tells → OnlySynced (files disk.before) (files disk.after)
  pub each_moment : IsTrue tells → AtEachMoment disk.before.clock disk.after (AddsNoImage (files disk.before))
  pub idle : NothingInFlight disk.after
