-- What a run says, when its statuses have to come, and what it leaves, by its command: one line a command, which leads to the file
-- of that command (docs/formats/program.md, "Commands" and "Statuses").
use Rattle.std.specs.Prelude.{ℕ, Bool, true, false, IsTrue, List, codes}
use Rattle.command_line.specs.declared.command.Command.{Command}
use Rattle.command_line.specs.declared.command.Command.TheVariants.{Replay, Load, Recover, Dump, Flush, View, Ship}
use Rattle.command_line.specs.Commands.{IsCommandOf, IsNoCommand}
use Rattle.wal_top.specs.declared.status.Status.{Status}
use Rattle.wal_top.specs.declared.status.Status.TheVariants.{Usage}
use Rattle.wal_top.specs.Call.{Invocation, Stays}
use Rattle.wal_top.specs.Replay.{SaysReplay, ReplayIsDue, LeavesReplay}
use Rattle.wal_top.specs.Load.{SaysLoad, LoadIsDue, LeavesLoad}
use Rattle.wal_top.specs.Recover.{SaysRecover, RecoverIsDue, LeavesRecover}
use Rattle.wal_top.specs.Dump.{SaysDump, DumpIsDue, LeavesDump}
use Rattle.wal_top.specs.Flush.{SaysFlush, FlushIsDue, LeavesFlush}
use Rattle.wal_top.specs.View.{SaysView, ViewIsDue, LeavesView}
use Rattle.wal_top.specs.Ship.{SaysShip, ShipIsDue, LeavesShip}

-- the whole text where the words are no command
abbrev pub usage_text : List ℕ
usage_text = codes "usage: replay [--threshold N] | recover | dump | load SEED COUNT | flush | view | ship\n"

-- What a command has to say, by its status: why, and the whole text that goes with it.
abbrev pub SaysOf : Command → Invocation → Status → List ℕ → Type 0
SaysOf (Replay threshold) c status text = SaysReplay threshold c status text
SaysOf (Load seed batches) c status text = Stays c.left × SaysLoad seed batches c.tells c.disk status text
SaysOf Recover c status text = Stays c.left × SaysRecover c.tells c.disk status text
SaysOf Dump c status text = Stays c.left × SaysDump c.tells c.disk status text
SaysOf Flush c status text = Stays c.left × SaysFlush c.tells c.disk status text
SaysOf View c status text = SaysView c status text
SaysOf Ship c status text = Stays c.left × SaysShip c.tells c.disk status text

-- When a status of it has to come.
abbrev pub IsDueOf : Command → Invocation → Status → Type 0
IsDueOf (Replay threshold) c status = ReplayIsDue c status
IsDueOf (Load seed batches) c status = LoadIsDue seed batches c.tells c.disk status
IsDueOf Recover c status = RecoverIsDue c.tells c.disk status
IsDueOf Dump c status = DumpIsDue c.tells c.disk status
IsDueOf Flush c status = FlushIsDue c.tells c.disk status
IsDueOf View c status = ViewIsDue c status
IsDueOf Ship c status = ShipIsDue c.tells c.disk status

-- What it leaves, whatever the status.
abbrev pub LeavesOf : Command → Invocation → Type 0
LeavesOf (Replay threshold) c = LeavesReplay c
LeavesOf (Load seed batches) c = Stays c.left × LeavesLoad c.tells c.disk
LeavesOf Recover c = Stays c.left × LeavesRecover c.tells c.disk
LeavesOf Dump c = Stays c.left × LeavesDump c.tells c.disk
LeavesOf Flush c = Stays c.left × LeavesFlush c.tells c.disk
LeavesOf View c = LeavesView c
LeavesOf Ship c = Stays c.left × LeavesShip c.tells c.disk

-- whether it reads the source
abbrev pub reads_source : Command → Bool
reads_source (Replay threshold) = true
reads_source View = true
reads_source command = false

-- The words are a command that reads the source.
abbrev pub ReadsSource : List (List ℕ) → Type 0
ReadsSource words = (command : Command) × IsCommandOf words command × IsTrue (reads_source command)

-- What a run has to say by its words, with a status and the whole text that goes with it: what their command says; or the usage line,
-- where they are no command, and nothing was read or done.
pub data HasToSay (words : List (List ℕ)) (c : Invocation) : Status → List ℕ → Type 0 where
  asked : (command : Command) → IsCommandOf words command → {status : Status} → {text : List ℕ} → SaysOf command c status text
      → HasToSay words c status text
  unasked : IsNoCommand words → Stays c.left → Stays c.disk → HasToSay words c Usage usage_text

-- A status has to come: one that is due of the command of the words, or of words that are none the status of that.
pub data IsDue (words : List (List ℕ)) (c : Invocation) : Status → Type 0 where
  asked_due : (command : Command) → IsCommandOf words command → {status : Status} → IsDueOf command c status → IsDue words c status
  unasked_due : IsNoCommand words → IsDue words c Usage
