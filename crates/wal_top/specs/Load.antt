-- The command `load`: generated batches are committed (docs/formats/program.md, "The generated load").
use Rattle.std.specs.Prelude.{ℕ, ◌-◌, Bool, true, false, List, codes}
use Rattle.command_line.specs.declared.command.TheConstants.{THRESHOLD_DEFAULT}
use Rattle.disk_face.specs.View.{DiskView}
use Rattle.made_load.specs.declared.load_end.LoadEnd.{LoadEnd}
use Rattle.made_load.specs.Load.{load_number, load_end_line, load_rounds}
use Rattle.script_runner.specs.declared.run.Outcome.{Outcome}
use Rattle.script_runner.specs.declared.work.Work.{Work}
use Rattle.script_runner.specs.declared.work.Work.TheVariants as works
use Rattle.script_runner.specs.Runs.{PollsNeverRise}
use Rattle.wal_top.specs.declared.status.Status.{Status}
use Rattle.wal_top.specs.Call.{Change}
use Rattle.wal_top.specs.Work.{SaysWork, WorkIsDue, ChangesNextWal}

-- what is printed at the end of a load of this seed and so many batches
abbrev pub load_end_of : ℕ → ℕ → Outcome → LoadEnd
load_end_of seed batches outcome = record {
  batches = outcome.end.batches;
  visible = outcome.end.visible;
  live = outcome.told.live;
  acked = outcome.end.acked;
  segments = outcome.end.segments;
  last = load_number seed (batches - 1);
}

-- the whole text of a load: its journal died, or it reached a limit, or it has come to its end
abbrev pub ended_text : Bool → Bool → LoadEnd → List ℕ
ended_text true limited end = codes "load dead\n"
ended_text false true end = codes "load limit\n"
ended_text false false end = load_end_line end

abbrev pub load_text : ℕ → ℕ → Outcome → List ℕ
load_text seed batches outcome = ended_text outcome.end.died outcome.told.limited (load_end_of seed batches outcome)

-- its work: the generated rounds
abbrev pub load_work : ℕ → ℕ → Work
load_work seed batches = works.Load (load_rounds seed batches)

-- ---- what it says, when that has to come, and what it leaves

-- The generated rounds, run with the default threshold.
abbrev pub SaysLoad : ℕ → ℕ → Bool → Change DiskView → Status → List ℕ → Type 0
SaysLoad seed batches tells disk status text =
    SaysWork (load_work seed batches) THRESHOLD_DEFAULT (load_text seed batches) tells disk status text

abbrev pub LoadIsDue : ℕ → ℕ → Bool → Change DiskView → Status → Type 0
LoadIsDue seed batches tells disk status = WorkIsDue (load_work seed batches) tells disk status

-- No file but segments of the next WAL changes unless by a sync.
pub record LeavesLoad (tells : Bool) (disk : Change DiskView) : Type 0 where
  pub polls : PollsNeverRise disk.before disk.after
  pub others : ChangesNextWal tells disk
