-- What is run, and what comes of it over a pipeline (docs/formats/program.md, "The run of a script" and "The generated load").
use Rattle.std.specs.Prelude.{◌≡◌, ◌++◌, ℕ, Bool, false, List, ◌∷◌, Contains}
use Rattle.wal_base.specs.Prefixes.{IsPrefixOf}
use Rattle.batch_repr.specs.declared.batch.Batch.{Batch}
use Rattle.session_replies.specs.Rounds.{NameSessions, NamesItsSessions}
use Rattle.made_load.specs.declared.load.TheConstants.{LOAD_SESSIONS}
use Rattle.session_replies.specs.declared.script.Round.{Round}
use Rattle.made_load.specs.Load.{live_keys}
use Rattle.commit_pipeline.specs.Openings.{Opening}
use Rattle.commit_pipeline.specs.declared.standing.Standing.{Standing}
use Rattle.commit_pipeline.specs.Standings.{Idles}
use Rattle.session_replies.specs.Legal.{Replied, replies_text}
use Rattle.session_replies.specs.Theorems.{limit_told}
use Rattle.session_rounds.specs.Players.{PlayMore, ReadersView}
use Rattle.script_runner.specs.declared.work.Work.{Work}
use Rattle.script_runner.specs.declared.work.Work.TheVariants as works
use Rattle.script_runner.specs.declared.performing.Told.{Told}

-- the rounds of some work
abbrev pub work_rounds : Work → List Round
work_rounds (works.Script script) = script.rounds
work_rounds (works.Load load) = load

-- whether it leaves the journal as it is at the end
abbrev pub halts : Work → Bool
halts (works.Script script) = script.halted
halts (works.Load load) = false

-- how many sessions it has
abbrev pub work_sessions : Work → ℕ
work_sessions (works.Script script) = script.sessions
work_sessions (works.Load load) = LOAD_SESSIONS

-- Its lines are of its own sessions.
abbrev pub NamesItsOwn : Work → Type 0
NamesItsOwn (works.Script script) = NamesItsSessions script
NamesItsOwn (works.Load load) = NameSessions LOAD_SESSIONS load

-- ---- over a pipeline

-- The rounds of a load were played, and a reply told a limit or none did.
pub record AnswersLoad (opening : Opening) (rounds : List Round) (ss ss' : List Standing) (limited : Bool) : Type 0 where
  pub own : List (List Replied)
  pub plays : PlayMore opening rounds own ss ss'
  pub limited_is : limited ≡ limit_told own

-- The first session has counted so many live keys of a load: those of the store with what it has seen, where it has seen no more
-- meanwhile. The others are as they were.
pub record CountsLive (opening : Opening) (live : ℕ) (old new : ReadersView) : Type 0 where
  pub first : Standing
  pub first' : Standing
  pub others : List Standing
  pub was : old.now ≡ first ∷ others
  pub is : new.now ≡ first' ∷ others
  pub met : new.met ≡ old.met
  pub idles : Idles first first'
  pub counts : first'.seen ≡ first.seen → live ≡ live_keys (opening.base ++ first.seen)

-- The text of the replies is kept.
abbrev pub KeepsReplies : Told → List (List Replied) → ReadersView → Type 0
KeepsReplies told own readers = told.text ≡ replies_text own

-- The number of live keys is kept: that after all batches, where the sessions had seen just these when they met for the last time, and
-- see no others.
abbrev pub KeepsCount : Opening → Told → List (List Replied) → ReadersView → Type 0
KeepsCount opening told own readers = (batches : List Batch) → ((s : Standing) → Contains readers.met s → s.seen ≡ batches)
    → ((s : Standing) → Contains readers.now s → IsPrefixOf s.seen batches) → told.live ≡ live_keys (opening.base ++ batches)

-- The rounds were played, the sessions only read since, and what is told of them is kept so.
pub record Performs (opening : Opening) (rounds : List Round) (keeps : Told → List (List Replied) → ReadersView → Type 0) (ss : List Standing)
    (readers : ReadersView) (told : Told) : Type 0 where
  pub own : List (List Replied)
  pub plays : PlayMore opening rounds own ss readers.met
  pub limited : told.limited ≡ limit_told own
  pub kept : keeps told own readers

-- What is kept of what some work tells: of a script the text of the replies, of a load the number of its live keys.
abbrev pub Keeps : Opening → Work → Told → List (List Replied) → ReadersView → Type 0
Keeps opening (works.Script script) told own readers = KeepsReplies told own readers
Keeps opening (works.Load load) told own readers = KeepsCount opening told own readers

abbrev pub PerformsWork : Opening → Work → List Standing → ReadersView → Told → Type 0
PerformsWork opening work ss readers told = Performs opening (work_rounds work) (Keeps opening work) ss readers told
