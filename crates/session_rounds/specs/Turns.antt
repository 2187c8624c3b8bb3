-- The turns of the sessions in a round: the session, its lines that are still to do, and what was said so far (docs/formats/program.md, "The run of a script").
use Rattle.std.specs.Prelude.{◌≡◌, ℕ, ◌<◌, Bool, false, ltb, List, [], ◌∷◌, length, map, Some, slice_get, slice_index, slice_index_or}
use Rattle.std.specs.List.{AllByRecursion}
use Rattle.session_replies.specs.declared.script.Line.{Line}
use Rattle.session_replies.specs.Legal.{Replied, lines_of_session}
use Rattle.commit_pipeline.specs.Openings.{Opening}
use Rattle.commit_pipeline.specs.declared.standing.Standing.{Standing}
use Rattle.session_rounds.specs.declared.course.Course.{Course}
use Rattle.session_rounds.specs.declared.transcript.Transcript.{Transcript}
use Rattle.session_rounds.specs.Acts.{DoesLines}
use Rattle.session_rounds.specs.Transcripts.{NotesReplies, with_told}

-- the turn of a session with these lines, before it is played: what is said to them comes after what was told
abbrev pub turn_with : Transcript → Standing → List Line → Course
turn_with told s lines = record { session = s; lines = lines; told = told; starved = false }

-- whether a session has a line that is still to do
abbrev pub has_line : Course → Bool
has_line t = ltb 0 (length t.lines)

-- the turn of a session with no line
abbrev pub beginning : Transcript → Standing → Course
beginning told s = turn_with told s []

-- a turn with a line before those that it has
abbrev pub with_line : Line → Course → Course
with_line line t = record { session = t.session; lines = line ∷ t.lines; told = t.told; starved = t.starved }

-- the session of a turn
abbrev pub session_of : Course → Standing
session_of t = t.session

-- a transcript, and after it what was said in each turn
unfoldable pub join_all : Transcript → List Course → Transcript
join_all told [] = told
join_all told (t ∷ ts) = join_all (with_told told t.told) ts

-- The lines are counted session by session.
abbrev pub CountsLines : List Line → List ℕ → Type 0
CountsLines lines counts = (i : ℕ) → slice_index counts i ≡ length (lines_of_session i lines)

-- Each session has its lines of the round, and nothing was said but this.
pub record AreDealt (told : Transcript) (ss : List Standing) (lines : List Line) (ts : List Course) : Type 0 where
  pub all : length ts ≡ length ss
  pub each : (i : ℕ) (s : Standing) → slice_get ss i ≡ Some s → slice_get ts i ≡ Some (turn_with told s (lines_of_session i lines))

-- A session has done its lines, and what was said is told.
pub record PlaysTurn (opening : Opening) (t t' : Course) : Type 0 where
  pub replies : List Replied
  pub lines_are : map (λ (r : Replied). r.line) replies ≡ t.lines
  pub notes : NotesReplies replies t.told t'.told
  pub does : DoesLines opening t.session replies t'.session

-- Each session has, unless it ran out of memory.
pub record PlayAll (opening : Opening) (ts ts' : List Course) : Type 0 where
  pub all : length ts' ≡ length ts
  pub each : (i : ℕ) (d : Course) → i < length ts → (slice_index_or ts' i d).starved ≡ false
      → PlaysTurn opening (slice_index_or ts i d) (slice_index_or ts' i d)

-- No session ran out of memory.
abbrev pub NoneStarved : List Course → Type 0
NoneStarved ts = AllByRecursion (λ (t : Course). t.starved ≡ false) ts

-- Turns were played, none of them ran out of memory, these are their sessions, and what was said in them is added to the transcript.
pub record PlaysTurns (opening : Opening) (ts : List Course) (ss' : List Standing) (old new : Transcript) : Type 0 where
  pub ended : List Course
  pub plays : PlayAll opening ts ended
  pub none : NoneStarved ended
  pub sessions_are : ss' ≡ map session_of ended
  pub told_is : new ≡ join_all old ended
