-- What work has come to, before it is printed. Nothing of it is seen from outside.
use Rattle.std.specs.Prelude.{◌≡◌, ℕ, Bool, List}
use Rattle.disk_face.specs.View.{DiskView}
use Rattle.wal_recovery.specs.declared.reports.Mode.TheVariants.{Strict}
use Rattle.script_runner.specs.declared.run.Outcome.{Outcome}
use Rattle.script_runner.specs.declared.work.Work.{Work}
use Rattle.wal_top.specs.declared.status.Status.{Status}
use Rattle.wal_top.specs.declared.status.Status.TheVariants.{Limit}
use Rattle.wal_top.specs.declared.working.Worked.{Worked}
use Rattle.wal_top.specs.declared.working.Worked.TheVariants as worked
use Rattle.wal_top.specs.Call.{Change}
use Rattle.wal_top.specs.Recovery.{SaysUnrecovered}
use Rattle.wal_top.specs.Work.{RunsOverDisk, LacksWal, status_after}

-- What is said of work that is not begun, by its status.
abbrev pub SaysUnbegun : Bool → Change DiskView → Status → List ℕ → Type 0
SaysUnbegun tells disk Limit text = LacksWal tells disk text
SaysUnbegun tells disk status text = SaysUnrecovered Strict tells disk status text

-- The work was done over the disk, or this is said of why it is not begun.
abbrev pub WorkComesTo : Work → ℕ → Bool → Change DiskView → Worked → Type 0
WorkComesTo work threshold tells disk (worked.Done outcome) = RunsOverDisk work threshold tells disk outcome
WorkComesTo work threshold tells disk (worked.Unbegun said) = SaysUnbegun tells disk said.status said.text

-- It is told by its status and its text.
abbrev pub TellsWorked : (Outcome → List ℕ) → Worked → Status → List ℕ → Type 0
TellsWorked print (worked.Done outcome) status text = (status ≡ status_after outcome) × (text ≡ print outcome)
TellsWorked print (worked.Unbegun said) status text = (status ≡ said.status) × (text ≡ said.text)
