-- The command `flush`: the store is written into one table (docs/formats/program.md, "The text of a flush").
use Rattle.std.specs.Prelude.{◌≡◌, ℕ, Bool, List, [], ◌∷◌, ◌++◌, Option, Some, None, codes}
use Rattle.std.specs.Fmt.{decimal}
use Rattle.wal_base.specs.Faults.{Rose}
use Rattle.disk_face.specs.declared.Side.{Side}
use Rattle.disk_face.specs.View.{DiskView, NothingInFlight}
use Rattle.disk_face.specs.Calls.{SameDisk}
use Rattle.wal_recovery.specs.declared.reports.Mode.TheVariants.{Strict}
use Rattle.flush_table.specs.declared.flushing.Flushed.{Flushed}
use Rattle.flush_table.specs.Flushing.{TellsFlush, KeepsAnswers}
use Rattle.script_runner.specs.Runs.{PollsNeverRise}
use Rattle.wal_top.specs.declared.status.Status.{Status}
use Rattle.wal_top.specs.declared.status.Status.TheVariants.{Done, Disk, Refused}
use Rattle.wal_top.specs.Call.{Change}
use Rattle.wal_top.specs.Recovery.{disk_fault_text, RefusesDirectories, HasStoreToShow, IsToRefuse}

-- `flush keys L next N upto U dropped D`
abbrev pub flush_line : Flushed → List ℕ
flush_line flushed =
    codes "flush keys " ++ decimal flushed.keys ++ codes " next " ++ decimal flushed.next ++ codes " upto " ++ decimal flushed.upto
    ++ codes " dropped " ++ decimal flushed.dropped ++ 10 ∷ []

-- what is said where no segment is listed
abbrev pub nothing_line : List ℕ
nothing_line = codes "flush nothing\n"

-- the whole text of a flush
abbrev pub flush_text : Option Flushed → List ℕ
flush_text None = nothing_line
flush_text (Some flushed) = flush_line flushed

-- The store was written into one table, and what that covers was removed; or no segment is listed, and nothing was done.
pub record FlushesStore (tells : Bool) (disk : Change DiskView) (text : List ℕ) : Type 0 where
  pub flushed : Option Flushed
  pub told : TellsFlush tells disk.before disk.after flushed
  pub text_is : text ≡ flush_text flushed
  pub nothing : flushed ≡ None → SameDisk disk.before disk.after

-- A side failed, and is named. What was done before is left as it is, and nothing is in flight.
pub record FailsFlush (tells : Bool) (disk : Change DiskView) (text : List ℕ) : Type 0 where
  pub side : Side
  pub failed : Rose (disk.before.faults side) (disk.after.faults side)
  pub text_is : text ≡ disk_fault_text side
  pub idle : NothingInFlight disk.after

-- ---- what it says, when that has to come, and what it leaves

abbrev pub SaysFlush : Bool → Change DiskView → Status → List ℕ → Type 0
SaysFlush tells disk Done text = FlushesStore tells disk text
SaysFlush tells disk Disk text = FailsFlush tells disk text
SaysFlush tells disk Refused text = RefusesDirectories Strict tells disk text
SaysFlush tells disk status text = ⊥

abbrev pub FlushIsDue : Bool → Change DiskView → Status → Type 0
FlushIsDue tells disk Done = HasStoreToShow Strict tells disk
FlushIsDue tells disk Refused = IsToRefuse Strict tells disk
FlushIsDue tells disk status = ⊥

-- Whatever the status, a crash at any moment of it leaves a store that answers as the one before.
pub record LeavesFlush (tells : Bool) (disk : Change DiskView) : Type 0 where
  pub polls : PollsNeverRise disk.before disk.after
  pub idle : NothingInFlight disk.after
  pub answers : KeepsAnswers tells disk.before disk.after
