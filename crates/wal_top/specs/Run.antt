-- A run, and all that it promises by its words and its status (docs/formats/program.md, "Statuses").
use Rattle.std.specs.Prelude.{◌≡◌, ◌⊎◌, ℕ, List, ◌++◌, Option}
use Rattle.wal_base.specs.Told.{told_back}
use Rattle.disk_face.specs.Calls.{WentOn}
use Rattle.command_line.specs.declared.command.Command.{Command}
use Rattle.command_line.specs.Commands.{IsCommandOf, IsNoCommand}
use Rattle.wal_top.specs.declared.status.Status.{Status}
use Rattle.wal_top.specs.declared.status.Status.TheVariants.{Write, NoMemory}
use Rattle.wal_top.specs.Call.{Change, Invocation, Run, Rises, Stays}
use Rattle.wal_top.specs.ByCommand.{HasToSay, IsDue, LeavesOf}

-- ---- what each status says

-- The text was written, where the sink tells it.
abbrev pub Wrote : Option (List ℕ) → Option (List ℕ) → List ℕ → Type 0
Wrote before after text = after ≡ told_back before text

-- A front of the text was written, where the sink tells it.
pub record WrotePart (before after : Option (List ℕ)) (text : List ℕ) : Type 0 where
  pub front : List ℕ
  pub rest : List ℕ
  pub text_is : text ≡ front ++ rest
  pub wrote : Wrote before after front

-- The whole text was written that goes with this status.
abbrev pub WritesAll : List (List ℕ) → Run → Status → Type 0
WritesAll words r status = (text : List ℕ) × HasToSay words r.call status text × Wrote r.written.before r.written.after text

-- A front was written of the one text that the run had to say.
pub record WritesPart (words : List (List ℕ)) (r : Run) : Type 0 where
  pub status : Status
  pub text : List ℕ
  pub says : HasToSay words r.call status text
  pub part : WrotePart r.written.before r.written.after text

-- What each status says. The sink failed; or memory ran out, of the run before it wrote a byte, or of the sink; or the whole text is
-- written that the words have to say with it.
abbrev pub Says : List (List ℕ) → Run → Status → Type 0
Says words r Write = Rises r.sink_faults × WritesPart words r
Says words r NoMemory = Stays r.written ⊎ (Rises r.shortages × WritesPart words r)
Says words r status = WritesAll words r status

-- ---- when a status has to come

-- A status is answered as it is, unless the sink fails, whose faults rise then, or memory runs out.
abbrev pub YieldsTo : Change ℕ → Status → Status → Type 0
YieldsTo sink_faults status given = (given ≡ status) ⊎ (((given ≡ Write) × Rises sink_faults) ⊎ (given ≡ NoMemory))

-- Whichever status has to come is answered.
abbrev pub ComesExactly : List (List ℕ) → Run → Status → Type 0
ComesExactly words r given = (status : Status) → IsDue words r.call status → YieldsTo r.sink_faults status given

-- ---- what is left, whatever the status

-- What a run leaves: no count and no clock of the disk falls, and the rest by its command. Words that are none leave all as it was.
pub record Leaves (words : List (List ℕ)) (c : Invocation) : Type 0 where
  pub went_on : WentOn c.disk.before c.disk.after
  pub of_command : (command : Command) → IsCommandOf words command → LeavesOf command c
  pub of_none : IsNoCommand words → Stays c.left × Stays c.disk
