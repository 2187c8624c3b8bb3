-- What the players of rounds have done, and what their end tells (docs/formats/program.md, "The run of a script").
use Rattle.std.specs.Prelude.{◌≡◌, ◌≢◌, ◌⊎◌, ◌++◌, ℕ, Bool, List, [], ◌∷◌, length, None, Contains, IsTrue}
use Rattle.std.specs.List.{AllByRecursion}
use Rattle.wal_base.specs.Prefixes.{IsPrefixOf}
use Rattle.batch_repr.specs.declared.batch.Batch.{Batch}
use Rattle.batch_repr.specs.Batches.{end_after}
use Rattle.disk_face.specs.View.{DiskView}
use Rattle.failover_writer.specs.State.{State, JournalView, acked}
use Rattle.failover_writer.specs.Outcome.{JournalOutcome}
use Rattle.session_replies.specs.Rounds.{NameSessions}
use Rattle.session_replies.specs.declared.script.Round.{Round}
use Rattle.session_replies.specs.declared.script.StallLine.{StallLine}
use Rattle.session_replies.specs.Legal.{Replied, AreLegal}
use Rattle.session_replies.specs.Lasting.{DeathLasts}
use Rattle.commit_pipeline.specs.Openings.{Opening, first_of}
use Rattle.commit_pipeline.specs.declared.standing.Standing.{Standing}
use Rattle.commit_pipeline.specs.declared.fault.Reply.{Reply}
use Rattle.commit_pipeline.specs.Parts.{AreNew}
use Rattle.commit_pipeline.specs.Commits.{TellsRead}
use Rattle.session_rounds.specs.declared.transcript.Transcript.{Transcript}
use Rattle.session_rounds.specs.Playing.{PlaysRounds}
use Rattle.session_rounds.specs.Transcripts.{NotesRounds}
use Rattle.session_rounds.specs.Legality.{SyncedAreAmong}

-- There is no stall, or the opening allows some.
abbrev pub AllowsPolls : Opening → List StallLine → Type 0
AllowsPolls opening stalls = (stalls ≡ []) ⊎ IsTrue opening.start.may_stall

-- ---- while rounds are played

-- New sessions have played these rounds over a pipeline, with these replies, and have met after each.
pub record HavePlayed (opening : Opening) (rounds : List Round) (replies : List (List Replied)) (ss : List Standing) : Type 0 where
  pub first : List Standing
  pub new : AreNew (length ss) first
  pub named : NameSessions (length ss) rounds
  pub plays : PlaysRounds opening first rounds replies ss

-- Whatever rounds they had played, they have played these after them, with these replies. They are as many as before.
pub record PlayMore (opening : Opening) (more : List Round) (own : List (List Replied)) (ss ss' : List Standing) : Type 0 where
  pub all : length ss' ≡ length ss
  pub after : (rounds : List Round) (replies : List (List Replied)) → HavePlayed opening rounds replies ss
      → HavePlayed opening (rounds ++ more) (replies ++ own) ss'

-- Rounds are played, one after another, and what is said is added to the transcript.
pub record PlayNoted (opening : Opening) (more : List Round) (ss ss' : List Standing) (old new : Transcript) : Type 0 where
  pub own : List (List Replied)
  pub plays : PlayMore opening more own ss ss'
  pub notes : NotesRounds own old new

-- ---- after the last round

-- Sessions that only read: as they were when they had met for the last time, and as they are.
pub record ReadersView : Type 0 where
  pub met : List Standing
  pub now : List Standing

-- The first of them has read a key, and the others are as they were.
pub record FirstReads (opening : Opening) (key : List ℕ) (reply : Reply) (old new : ReadersView) : Type 0 where
  pub first : Standing
  pub first' : Standing
  pub others : List Standing
  pub was : old.now ≡ first ∷ others
  pub is : new.now ≡ first' ∷ others
  pub met : new.met ≡ old.met
  pub reads : TellsRead opening key reply first first'

-- What was played is legal for these batches, each of them that is answered synced is acked, a journal that died stays dead, and all
-- of them were seen by each session when they had met for the last time.
pub record ArePlayedLegally (opening : Opening) (rounds : List Round) (replies : List (List Replied)) (met : List Standing)
    (batches : List Batch) (state : State) : Type 0 where
  pub legal : (died : Bool) → (state.dead ≢ None → IsTrue died) → AreLegal (first_of opening) opening.base died rounds batches replies
  pub synced : AllByRecursion (SyncedAreAmong batches (acked state)) replies
  pub lasting : DeathLasts replies
  pub seen : (s : Standing) → Contains met s → s.seen ≡ batches

-- The journal has taken these batches since the opening, and whatever was played is legal for them.
pub record EndsPlay (tells : Bool) (opening : Opening) (readers : ReadersView) (batches : List Batch) (state : State) (v : DiskView)
    (visible count : ℕ) : Type 0 where
  pub keeps : JournalOutcome tells opening.start batches state v
  pub legally : (rounds : List Round) (replies : List (List Replied)) → HavePlayed opening rounds replies readers.met
      → ArePlayedLegally opening rounds replies readers.met batches state
  pub within : (s : Standing) → Contains readers.now s → IsPrefixOf s.seen batches
  pub visible_is : visible ≡ end_after (first_of opening) (opening.base ++ batches)
  pub count_is : count ≡ length batches

-- What the end of a pipeline tells of its players.
abbrev pub EndsPlayers : {Disk : Type 0} → Bool → (Disk → DiskView) → Opening → ReadersView → JournalView Disk → ℕ → ℕ → Type 0
EndsPlayers tells view opening readers journal visible count =
    (batches : List Batch) × EndsPlay tells opening readers batches journal.state (view journal.disk) visible count
