-- How rounds are played by sessions beside one another (docs/formats/program.md, "The run of a script").
use Rattle.std.specs.Prelude.{◌≡◌, ℕ, List, [], ◌∷◌, length, Some, slice_get}
use Rattle.session_replies.specs.declared.script.Line.{Line}
use Rattle.session_replies.specs.declared.script.Round.{Round}
use Rattle.session_replies.specs.Legal.{Replied, RepliesTo, replies_of_session}
use Rattle.commit_pipeline.specs.Openings.{Opening}
use Rattle.commit_pipeline.specs.declared.standing.Standing.{Standing}
use Rattle.commit_pipeline.specs.Meeting.{HaveMet}
use Rattle.session_rounds.specs.declared.transcript.Transcript.{Transcript}
use Rattle.session_rounds.specs.Acts.{DoesLines}
use Rattle.session_rounds.specs.Transcripts.{NotesReplies}

-- Each session has done its lines of a round, which are answered by these replies.
pub record PlaysRound (opening : Opening) (lines : List Line) (ss : List Standing) (replies : List Replied) (ss' : List Standing)
    : Type 0 where
  pub all : length ss' ≡ length ss
  pub answered : RepliesTo lines replies
  pub each : (i : ℕ) (s s' : Standing) → slice_get ss i ≡ Some s → slice_get ss' i ≡ Some s'
      → DoesLines opening s (replies_of_session i replies) s'

-- The rounds are played one after another, and after each the sessions meet.
unfoldable pub PlaysRounds : Opening → List Standing → List Round → List (List Replied) → List Standing → Type 0
PlaysRounds opening ss [] [] ss' = ss' ≡ ss
PlaysRounds opening ss [] (replies ∷ more) ss' = ⊥
PlaysRounds opening ss (round ∷ rounds) [] ss' = ⊥
PlaysRounds opening ss (round ∷ rounds) (replies ∷ more) ss' =
    (mid met : List Standing) × PlaysRound opening round.lines ss replies mid × HaveMet mid met × PlaysRounds opening met rounds more ss'

-- The sessions have played a round, and what was said is added to the transcript.
pub record RoundPlayed (opening : Opening) (lines : List Line) (ss ss' : List Standing) (old new : Transcript) : Type 0 where
  pub replies : List Replied
  pub plays : PlaysRound opening lines ss replies ss'
  pub notes : NotesReplies replies old new
