-- The command `view`: the store is read as it was at held numbers (docs/formats/program.md, "The text of a view"; docs/formats/view.md).
use Rattle.std.specs.Prelude.{◌≡◌, ℕ, Bool, IsTrue, ◌+◌, ◌<◌, ◌≤◌, List, [], ◌∷◌, ◌++◌, length, Option, Some, codes}
use Rattle.std.specs.Fmt.{decimal}
use Rattle.disk_face.specs.View.{DiskView, files}
use Rattle.disk_face.specs.Image.{IsRested}
use Rattle.wal_recovery.specs.declared.reports.Mode.TheVariants.{Strict}
use Rattle.wal_recovery.specs.Rows.{files_from}
use Rattle.wal_recovery.specs.Resting.{OnlySynced, AreSegmentsStable}
use Rattle.flush_table.specs.Stores.{wal_after, number_after}
use Rattle.script_runner.specs.Runs.{PollsNeverRise}
use Rattle.view_script.specs.declared.view_line.ViewLine.{ViewLine}
use Rattle.view_script.specs.Asking.{view_lines, AreAsked, IsFirstBadLine}
use Rattle.view_runner.specs.Replies.{IsViewText}
use Rattle.wal_top.specs.declared.commands.view.Asked.{Asked}
use Rattle.wal_top.specs.declared.commands.view.Asked.TheVariants as asked
use Rattle.wal_top.specs.declared.reading.TheConstants.{SCRIPT_MAX}
use Rattle.wal_top.specs.declared.status.Status.{Status}
use Rattle.wal_top.specs.declared.status.Status.TheVariants as statuses
use Rattle.wal_top.specs.Call.{Change, Invocation, Stays, Rises, HasCalmSource}
use Rattle.wal_top.specs.Reading.{TookAtMost, ReadsWhole, ReadsTooMuch, read_fault_text}
use Rattle.wal_top.specs.Recovery.{ReadsStore, SaysShown, ShownIsDue, WritesNoJournal}

-- ---- its texts

-- the whole text where the source has more bytes than may be
abbrev pub long_view_text : List ℕ
long_view_text = codes "view too long\n"

-- the whole text where the line of this number is the first bad one
unfoldable pub bad_view_text : ℕ → List ℕ
bad_view_text number = codes "view line " ++ decimal number ++ 10 ∷ []

-- ---- what is read

-- The lines of the source ask for this, and are no more bytes than may be.
pub record ReadsLines (before : Option (List ℕ)) (lines : List ViewLine) (after : Option (List ℕ)) : Type 0 where
  pub bytes : List ℕ
  pub whole : ReadsWhole before bytes after
  pub within : length bytes ≤ SCRIPT_MAX
  pub asked : AreAsked (view_lines bytes) lines

-- The whole source was read, and the line of this number is its first bad one.
pub record ReadsBadAt (before : Option (List ℕ)) (number : ℕ) (after : Option (List ℕ)) : Type 0 where
  pub bytes : List ℕ
  pub whole : ReadsWhole before bytes after
  pub within : length bytes ≤ SCRIPT_MAX
  pub bad : IsFirstBadLine (view_lines bytes) number

-- The lines of the source were refused with this text: for their length, or for the first bad one.
pub data RefusesLines (left : Change (Option (List ℕ))) : List ℕ → Type 0 where
  long_view : ReadsTooMuch left.before left.after → RefusesLines left long_view_text
  bad_view : (number : ℕ) → ReadsBadAt left.before number left.after → RefusesLines left (bad_view_text number)

-- The bytes are too many, or have a bad line.
pub data AreNoLines (bytes : List ℕ) : Type 0 where
  too_many : SCRIPT_MAX < length bytes → AreNoLines bytes
  bad_at : (number : ℕ) → length bytes ≤ SCRIPT_MAX → IsFirstBadLine (view_lines bytes) number → AreNoLines bytes

-- The source tells bytes whose lines ask for this, and no more than may be.
pub record TellsLines (told : Option (List ℕ)) : Type 0 where
  pub bytes : List ℕ
  pub told_is : told ≡ Some bytes
  pub within : length bytes ≤ SCRIPT_MAX
  pub lines : List ViewLine
  pub asked : AreAsked (view_lines bytes) lines

-- The source tells bytes that are no lines of a view.
pub record TellsNoLines (told : Option (List ℕ)) : Type 0 where
  pub bytes : List ℕ
  pub told_is : told ≡ Some bytes
  pub wrong : AreNoLines bytes

-- ---- what is shown

-- The store of the directories was viewed by these lines: from the used table's `next` on, and from the first number of all where no
-- table is used. The text is the one that goes with its batches, that floor and the lines.
pub record ShowsView (tells : Bool) (disk : Change DiskView) (lines : List ViewLine) (text : List ℕ) : Type 0 where
  pub read : ReadsStore Strict tells disk
  pub text_is : IsViewText read.batches (number_after read.seen) lines text
  pub only_synced : IsTrue tells → OnlySynced (files disk.before) (files disk.after)
  pub stable : IsTrue tells → IsRested (files disk.before) → AreSegmentsStable (files_from (wal_after read.seen) (files disk.after))

-- ---- what it says, when that has to come, and what it leaves

-- Lines that are refused, or a source that failed, and a disk that was not touched; or the store, viewed by the lines of the source.
abbrev pub SaysView : Invocation → Status → List ℕ → Type 0
SaysView c statuses.Script text = RefusesLines c.left text × Stays c.disk
SaysView c statuses.Read text = Rises c.source_faults × (text ≡ read_fault_text) × Stays c.disk
SaysView c status text = (lines : List ViewLine) × ReadsLines c.left.before lines c.left.after
    × SaysShown Strict c.tells c.disk (ShowsView c.tells c.disk lines text) status text

-- A status has to come of a source that tells no lines of a view, or of a store to show, where no fault of the source was counted.
abbrev pub ViewIsDue : Invocation → Status → Type 0
ViewIsDue c statuses.Script = TellsNoLines c.left.before × HasCalmSource c
ViewIsDue c status = TellsLines c.left.before × ShownIsDue Strict c.tells c.disk status × HasCalmSource c

-- The source gave no more than one byte past the greatest length, and no file changes unless by a sync.
pub record LeavesView (c : Invocation) : Type 0 where
  pub took : TookAtMost (SCRIPT_MAX + 1) c.left.before c.left.after
  pub polls : PollsNeverRise c.disk.before c.disk.after
  pub no_journal : WritesNoJournal c.tells c.disk

-- ---- inside

-- What is said of a source that gives no lines, by its status.
abbrev pub SaysOfLines : Change (Option (List ℕ)) → Change ℕ → Status → List ℕ → Type 0
SaysOfLines left faults statuses.Script text = RefusesLines left text
SaysOfLines left faults statuses.Read text = Rises faults × (text ≡ read_fault_text)
SaysOfLines left faults status text = ⊥

-- What was taken of a source: its lines, or what is said instead.
abbrev pub TakesLines : Change (Option (List ℕ)) → Change ℕ → Asked → Type 0
TakesLines left faults (asked.Lines lines) = ReadsLines left.before lines left.after
TakesLines left faults (asked.Said said) = SaysOfLines left faults said.status said.text
