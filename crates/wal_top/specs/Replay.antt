-- The command `replay`: a script of the source is run (docs/formats/program.md, "The script" and "The text of a replay").
use Rattle.std.specs.Prelude.{◌≡◌, ℕ, ◌+◌, ◌<◌, ◌≤◌, List, [], ◌∷◌, ◌++◌, length, Option, Some, codes}
use Rattle.std.specs.Fmt.{decimal}
use Rattle.session_replies.specs.declared.script.Script.{Script}
use Rattle.line_words.specs.Words.{lines_of}
use Rattle.session_script.specs.Script.{IsScript, IsFirstBad}
use Rattle.session_replies.specs.Rounds.{NamesItsSessions}
use Rattle.session_replies.specs.Replies.{end_line}
use Rattle.script_runner.specs.declared.run.Outcome.{Outcome}
use Rattle.script_runner.specs.declared.work.Work.TheVariants as works
use Rattle.script_runner.specs.Runs.{StallNone, PollsNeverRise}
use Rattle.wal_top.specs.declared.commands.replay.Taken.{Taken}
use Rattle.wal_top.specs.declared.commands.replay.Taken.TheVariants as taken
use Rattle.wal_top.specs.declared.reading.TheConstants.{SCRIPT_MAX}
use Rattle.wal_top.specs.declared.status.Status.{Status}
use Rattle.wal_top.specs.declared.status.Status.TheVariants as statuses
use Rattle.wal_top.specs.Call.{Change, Invocation, Stays, Rises, HasCalmSource}
use Rattle.wal_top.specs.Reading.{TookAtMost, ReadsWhole, ReadsTooMuch, read_fault_text}
use Rattle.wal_top.specs.Work.{SaysWork, WorkIsDue, ChangesNextWal}

-- ---- its texts

-- the whole text where a script has more bytes than may be
abbrev pub too_long_text : List ℕ
too_long_text = codes "script too long\n"

-- the whole text where the line of this number is the first bad one
unfoldable pub bad_line_text : ℕ → List ℕ
bad_line_text number = codes "script line " ++ decimal number ++ 10 ∷ []

-- the whole text of a script that was run: its replies, and how its journal ended
abbrev pub replay_text : Outcome → List ℕ
replay_text outcome = outcome.told.text ++ end_line outcome.end

-- ---- what is read

-- The bytes of the source are this script, and are no more than a script may have.
pub record ReadsScript (before : Option (List ℕ)) (script : Script) (after : Option (List ℕ)) : Type 0 where
  pub bytes : List ℕ
  pub whole : ReadsWhole before bytes after
  pub within : length bytes ≤ SCRIPT_MAX
  pub is : IsScript bytes script

-- The whole script was read, and the line of this number is its first bad one.
pub record ReadsBadLine (before : Option (List ℕ)) (number : ℕ) (after : Option (List ℕ)) : Type 0 where
  pub bytes : List ℕ
  pub whole : ReadsWhole before bytes after
  pub within : length bytes ≤ SCRIPT_MAX
  pub bad : IsFirstBad (lines_of bytes) number

-- A script of the source was refused with this text: for its length, or for its first bad line.
pub data RefusesScript (left : Change (Option (List ℕ))) : List ℕ → Type 0 where
  too_long : ReadsTooMuch left.before left.after → RefusesScript left too_long_text
  bad_line : (number : ℕ) → ReadsBadLine left.before number left.after → RefusesScript left (bad_line_text number)

-- The bytes are too many, or have a bad line.
pub data IsNoScript (bytes : List ℕ) : Type 0 where
  longer : SCRIPT_MAX < length bytes → IsNoScript bytes
  bad : (number : ℕ) → length bytes ≤ SCRIPT_MAX → IsFirstBad (lines_of bytes) number → IsNoScript bytes

-- The source tells bytes that are this script, and no more than a script may have.
pub record TellsScript (told : Option (List ℕ)) : Type 0 where
  pub bytes : List ℕ
  pub told_is : told ≡ Some bytes
  pub within : length bytes ≤ SCRIPT_MAX
  pub script : Script
  pub is : IsScript bytes script

-- The source tells bytes that are no script.
pub record TellsNoScript (told : Option (List ℕ)) : Type 0 where
  pub bytes : List ℕ
  pub told_is : told ≡ Some bytes
  pub wrong : IsNoScript bytes

-- ---- what it says, when that has to come, and what it leaves

-- A script that is refused, or a source that failed, and a disk that was not touched; or the accepted script of the source, run with
-- this threshold.
abbrev pub SaysReplay : ℕ → Invocation → Status → List ℕ → Type 0
SaysReplay threshold c statuses.Script text = RefusesScript c.left text × Stays c.disk
SaysReplay threshold c statuses.Read text = Rises c.source_faults × (text ≡ read_fault_text) × Stays c.disk
SaysReplay threshold c status text = (script : Script) × ReadsScript c.left.before script c.left.after
    × SaysWork (works.Script script) threshold replay_text c.tells c.disk status text

-- A status has to come of a source that tells no script, or of the script that it tells, where no fault of the source was counted.
abbrev pub ReplayIsDue : Invocation → Status → Type 0
ReplayIsDue c statuses.Script = TellsNoScript c.left.before × HasCalmSource c
ReplayIsDue c status = (told : TellsScript c.left.before) × WorkIsDue (works.Script told.script) c.tells c.disk status × HasCalmSource c

-- The script of the source stalls no poll.
abbrev pub StallsNoPoll : Change (Option (List ℕ)) → Type 0
StallsNoPoll left = (script : Script) → ReadsScript left.before script left.after → StallNone script.rounds

-- The source gave no more than one byte past the longest script, and no file but segments of the next WAL changes unless by a sync.
pub record LeavesReplay (c : Invocation) : Type 0 where
  pub took : TookAtMost (SCRIPT_MAX + 1) c.left.before c.left.after
  pub polls : StallsNoPoll c.left → PollsNeverRise c.disk.before c.disk.after
  pub others : ChangesNextWal c.tells c.disk

-- ---- inside

-- What is said of a source that gives no script, by its status.
abbrev pub SaysOfSource : Change (Option (List ℕ)) → Change ℕ → Status → List ℕ → Type 0
SaysOfSource left faults statuses.Script text = RefusesScript left text
SaysOfSource left faults statuses.Read text = Rises faults × (text ≡ read_fault_text)
SaysOfSource left faults status text = ⊥

-- What was taken of a source: its script, or what is said instead.
abbrev pub TakesScript : Change (Option (List ℕ)) → Change ℕ → Taken → Type 0
TakesScript left faults (taken.Script script) = ReadsScript left.before script left.after × NamesItsSessions script
TakesScript left faults (taken.Said said) = SaysOfSource left faults said.status said.text
