-- The command `recover`: the store is shown (docs/formats/program.md, "The text of a store").
use Rattle.std.specs.Prelude.{◌≡◌, ℕ, Bool, IsTrue, List, ◌++◌, length}
use Rattle.disk_face.specs.View.{DiskView, files}
use Rattle.disk_face.specs.Image.{IsRested}
use Rattle.text_lines.specs.Store.{IsStoreText}
use Rattle.text_lines.specs.Lines.{recovered_end}
use Rattle.wal_recovery.specs.declared.reports.Mode.TheVariants.{Strict}
use Rattle.wal_recovery.specs.Rows.{files_from}
use Rattle.wal_recovery.specs.Resting.{OnlySynced, AreSegmentsStable}
use Rattle.flush_table.specs.Stores.{wal_after}
use Rattle.script_runner.specs.Runs.{PollsNeverRise}
use Rattle.wal_top.specs.declared.status.Status.{Status}
use Rattle.wal_top.specs.Call.{Change}
use Rattle.wal_top.specs.Recovery.{ReadsStore, next_of, SaysShown, ShownIsDue, WritesNoJournal}

-- The store of the directories was shown.
pub record ShowsStore (tells : Bool) (disk : Change DiskView) (text : List ℕ) : Type 0 where
  pub read : ReadsStore Strict tells disk
  pub store : List ℕ
  pub store_is : IsStoreText read.batches store
  pub text_is : text ≡ store ++ recovered_end (length read.batches) (next_of read)
  pub only_synced : IsTrue tells → OnlySynced (files disk.before) (files disk.after)
  pub stable : IsTrue tells → IsRested (files disk.before) → AreSegmentsStable (files_from (wal_after read.seen) (files disk.after))

-- ---- what it says, when that has to come, and what it leaves

abbrev pub SaysRecover : Bool → Change DiskView → Status → List ℕ → Type 0
SaysRecover tells disk status text = SaysShown Strict tells disk (ShowsStore tells disk text) status text

abbrev pub RecoverIsDue : Bool → Change DiskView → Status → Type 0
RecoverIsDue tells disk status = ShownIsDue Strict tells disk status

pub record LeavesRecover (tells : Bool) (disk : Change DiskView) : Type 0 where
  pub polls : PollsNeverRise disk.before disk.after
  pub no_journal : WritesNoJournal tells disk
