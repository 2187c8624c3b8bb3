-- What work says that writes a journal, over the store of the directories (docs/formats/program.md, "Statuses").
use Rattle.std.specs.Prelude.{◌≡◌, ◌⊎◌, ℕ, ◌+◌, ◌<◌, ◌≤◌, Bool, true, false, IsTrue, List, [], length, Option}
use Rattle.std.specs.Prelude.{codes}
use Rattle.batch_repr.specs.declared.batch.Batch.{Batch}
use Rattle.batch_repr.specs.declared.limits.TheConstants.{NUMBER_MAX, BATCHES_MAX}
use Rattle.batch_repr.specs.Batches.{end_after}
use Rattle.disk_face.specs.declared.names.TheConstants.{WAL_MAX}
use Rattle.disk_face.specs.View.{DiskView, files, NothingInFlight}
use Rattle.disk_face.specs.Image.{IsRested, directories}
use Rattle.wal_recovery.specs.declared.reports.Mode.TheVariants.{Strict}
use Rattle.wal_recovery.specs.Rows.{files_from}
use Rattle.wal_recovery.specs.Resting.{OnlySynced}
use Rattle.flush_table.specs.Stores.{Used, StoreOf, IsNextWalOfStore, wal_after, next_in}
use Rattle.flush_table.specs.Kept.{HasStoreWith, KeepsStore}
use Rattle.session_replies.specs.Rounds.{rounds_numbers, rounds_commits}
use Rattle.session_replies.specs.Theorems.{AsksTooMuch}
use Rattle.failover_writer.specs.Answered.{FaultsRose}
use Rattle.failover_writer.specs.Running.{OthersOnlySynced, AreOthersStable}
use Rattle.commit_pipeline.specs.Openings.{first_number, EndsBefore}
use Rattle.script_runner.specs.declared.run.Outcome.{Outcome}
use Rattle.script_runner.specs.declared.work.Work.{Work}
use Rattle.script_runner.specs.Works.{work_rounds}
use Rattle.script_runner.specs.Runs.{EndsRunAs, SaysRun}
use Rattle.wal_top.specs.declared.status.Status.{Status}
use Rattle.wal_top.specs.declared.status.Status.TheVariants.{Done, Disk, Refused, Limit}
use Rattle.wal_top.specs.Call.{Change, IsCalmDisk}
use Rattle.wal_top.specs.Recovery.{FailsRecovery, SaysUnrecovered, IsToRefuse, ReadsStore, next_of}

-- ---- what is said

-- the whole text where the last WAL is taken
abbrev pub limit_wal_text : List ℕ
limit_wal_text = codes "limit wal\n"

-- The journal of the batches stands in the next WAL of the directories, where the disk tells its files. No other file changed but
-- by a sync, and no file at all where there is no batch. Where the files were at rest, the store of whatever a crash leaves is the
-- one that was read, followed by a prefix of the batches, with all that are acked; and so is that of the directories as they read,
-- where no fault rose.
pub record LogsBatches (tells : Bool) (disk : Change DiskView) (read : ReadsStore Strict tells disk) (batches : List Batch) (acked : ℕ) : Type 0 where
  pub wal : ℕ
  pub within : wal ≤ WAL_MAX
  pub next : IsTrue tells → IsNextWalOfStore (directories disk.before) wal
  pub others : IsTrue tells → OthersOnlySynced wal (files disk.before) (files disk.after)
  pub nothing : IsTrue tells → batches ≡ [] → OnlySynced (files disk.before) (files disk.after)
  pub keeps : IsTrue tells → IsRested (files disk.before) → KeepsStore read.used read.batches batches acked (files disk.after)
  pub reads : IsTrue tells → IsRested (files disk.before) → (FaultsRose disk.before disk.after → ⊥)
      → HasStoreWith read.used read.batches batches acked (directories disk.after)
  pub stable : IsTrue tells → IsRested (files disk.before) → AreOthersStable wal (files_from (wal_after read.seen) (files disk.after))

-- the number of the first batch that was read, or the one that comes next where there is none
abbrev pub first_in : {tells : Bool} → {disk : Change DiskView} → ReadsStore Strict tells disk → ℕ
first_in read = first_number (next_of read) read.batches

-- The work was done over the store of the directories, whose batches are numbered one after another: this is what is said of it, and
-- this is what its journal left.
pub record RunsOverDisk (work : Work) (threshold : ℕ) (tells : Bool) (disk : Change DiskView) (outcome : Outcome) : Type 0 where
  pub read : ReadsStore Strict tells disk
  pub numbered : EndsBefore read.batches (next_of read)
  pub batches : List Batch
  pub says : SaysRun (first_in read) read.batches work batches outcome
  pub ends : EndsRunAs threshold (work_rounds work) (length batches) outcome.end disk.before disk.after
  pub logs : LogsBatches tells disk read batches outcome.end.acked

-- by a journal that died, by a limit that a commit met, or by neither
abbrev pub status_by : Bool → Bool → Status
status_by true limited = Disk
status_by false true = Limit
status_by false false = Done

abbrev pub status_after : Outcome → Status
status_after outcome = status_by outcome.end.died outcome.told.limited

-- The work was done so, and this status and this text tell how it ended. How a text tells it is for the command to say.
pub record DoesWork (work : Work) (threshold : ℕ) (print : Outcome → List ℕ) (tells : Bool) (disk : Change DiskView) (status : Status)
    (text : List ℕ) : Type 0 where
  pub outcome : Outcome
  pub done : RunsOverDisk work threshold tells disk outcome
  pub status_is : status ≡ status_after outcome
  pub text_is : text ≡ print outcome

-- The last WAL is taken, by a segment or a table: the directories have a store, but no WAL is next. No file was begun.
pub record LacksWal (tells : Bool) (disk : Change DiskView) (text : List ℕ) : Type 0 where
  pub read : ReadsStore Strict tells disk
  pub next : ℕ
  pub next_is : IsTrue tells → IsNextWalOfStore (directories disk.before) next
  pub past : WAL_MAX < next
  pub only_synced : IsTrue tells → OnlySynced (files disk.before) (files disk.after)
  pub idle : NothingInFlight disk.after
  pub text_is : text ≡ limit_wal_text

-- What work says, by its status. It was done, and no commit met a dead journal or a limit; the journal died, or a side failed in
-- recovery; a commit met a limit, or the last WAL is taken; or the directories are refused.
abbrev pub SaysWork : Work → ℕ → (Outcome → List ℕ) → Bool → Change DiskView → Status → List ℕ → Type 0
SaysWork work threshold print tells disk Done text = DoesWork work threshold print tells disk Done text
SaysWork work threshold print tells disk Disk text = DoesWork work threshold print tells disk Disk text ⊎ FailsRecovery tells disk text
SaysWork work threshold print tells disk Limit text = DoesWork work threshold print tells disk Limit text ⊎ LacksWal tells disk text
SaysWork work threshold print tells disk status text = SaysUnrecovered Strict tells disk status text

-- ---- when it has to be said

-- Work may begin: the disk tells files that have this store, with this WAL next, and counts no fault.
pub record MayBegin (tells : Bool) (disk : Change DiskView) : Type 0 where
  pub told : IsTrue tells
  pub used : Option Used
  pub base : List Batch
  pub store : StoreOf Strict (directories disk.before) used base
  pub next : ℕ
  pub next_is : IsNextWalOfStore (directories disk.before) next
  pub calm : IsCalmDisk disk

-- the first number of what it begins with
abbrev pub begins_at : {tells : Bool} → {disk : Change DiskView} → MayBegin tells disk → ℕ
begins_at begin = first_number (next_in begin.used begin.base) begin.base

-- It asks for no more numbers than are left after the base, and for no more batches than a run may commit.
pub record AsksEnough (work : Work) (from : ℕ) (base : List Batch) : Type 0 where
  pub numbers : end_after from base + rounds_numbers (work_rounds work) ≤ NUMBER_MAX
  pub batches : rounds_commits (work_rounds work) ≤ BATCHES_MAX

-- When a status has to come of work.
abbrev pub WorkIsDue : Work → Bool → Change DiskView → Status → Type 0
WorkIsDue work tells disk Done = (begin : MayBegin tells disk) × (begin.next ≤ WAL_MAX)
    × AsksEnough work (begins_at begin) begin.base
WorkIsDue work tells disk Limit = (begin : MayBegin tells disk)
    × ((WAL_MAX < begin.next) ⊎ AsksTooMuch (begins_at begin) begin.base (work_rounds work))
WorkIsDue work tells disk Refused = IsToRefuse Strict tells disk
WorkIsDue work tells disk status = ⊥

-- ---- what it leaves

-- Whatever the status, no file but segments of the next WAL changes unless by a sync.
abbrev pub ChangesNextWal : Bool → Change DiskView → Type 0
ChangesNextWal tells disk = IsTrue tells → (wal : ℕ) → IsNextWalOfStore (directories disk.before) wal
    → OthersOnlySynced wal (files disk.before) (files disk.after)
