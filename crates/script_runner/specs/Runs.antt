-- What a whole run over a disk comes to (docs/formats/program.md, "The run of a script" and "The generated load").
use Rattle.std.specs.Prelude.{◌≡◌, ◌≢◌, ◌↔◌, ◌⊎◌, ◌++◌, ◌+◌, ◌-◌, ◌*◌, ℕ, ◌<◌, ◌≤◌, Bool, true, false, List, [], ◌∷◌, length, Contains, None, IsTrue, is_some}
use Rattle.std.specs.List.{AllByRecursion, list_any}
use Rattle.batch_repr.specs.declared.batch.Batch.{Batch}
use Rattle.batch_repr.specs.Batches.{end_after}
use Rattle.disk_face.specs.declared.Side.{Side}
use Rattle.disk_face.specs.View.{Place, DiskView, files, NothingInFlight}
use Rattle.disk_face.specs.Asked.{creations, LastHasFailed}
use Rattle.disk_face.specs.Image.{IsRested}
use Rattle.stall_monitor.specs.declared.verdict.TheConstants.{SEGMENTS_MAX}
use Rattle.failover_writer.specs.State.{State, JournalView, len, acked}
use Rattle.failover_writer.specs.Answered.{FaultsRose, RoseBy}
use Rattle.failover_writer.specs.Remaining.{polls_left}
use Rattle.failover_writer.specs.Keeping.{HasNoSegment, KeepsRun}
use Rattle.failover_writer.specs.Sound.{IsSoundJournal}
use Rattle.failover_writer.specs.Running.{PollsLeft, OthersSame, ReadsAsImage}
use Rattle.failover_writer.specs.Outcome.{JournalStart, start_on, JournalOutcome}
use Rattle.session_replies.specs.declared.replies.RunEnd.{RunEnd}
use Rattle.session_replies.specs.declared.script.Round.{Round}
use Rattle.session_replies.specs.declared.script.StallLine.{StallLine}
use Rattle.made_load.specs.Load.{live_keys}
use Rattle.session_replies.specs.Legal.{Replied, replies_text, AreLegal}
use Rattle.session_replies.specs.Lasting.{DeathLasts}
use Rattle.session_replies.specs.Theorems.{limit_told, IsLimitedExactly}
use Rattle.commit_pipeline.specs.Openings.{Opening, first_number, first_of}
use Rattle.script_runner.specs.declared.performing.Told.{Told}
use Rattle.script_runner.specs.declared.run.Outcome.{Outcome}
use Rattle.script_runner.specs.declared.work.Work.{Work}
use Rattle.script_runner.specs.declared.work.Work.TheVariants as works
use Rattle.session_rounds.specs.Legality.{SyncedAreAmong}
use Rattle.script_runner.specs.Works.{work_rounds, halts}

-- ---- the end of a run

-- The journal was closed: it lives, and the script did not halt.
pub record WasClosed (end : RunEnd) : Type 0 where
  pub lives : end.died ≡ false
  pub goes_on : end.halted ≡ false

-- No round stalls polls.
abbrev pub StallNone : List Round → Type 0
StallNone rounds = AllByRecursion (λ (round : Round). round.stalls ≡ []) rounds

-- On no side are more polls left to stall than before.
abbrev pub PollsNeverRise : DiskView → DiskView → Type 0
PollsNeverRise old new = (side : Side) → new.polls_left side ≤ old.polls_left side

-- Some round stalls polls.
pub record StallsSome (rounds : List Round) : Type 0 where
  pub round : Round
  pub stands : Contains rounds round
  pub some : round.stalls ≢ []

-- Why a journal began its segments, and why it died: an operation on a segment failed, or `threshold` polls of it were answered
-- pending. So many faults rose at least as there were failures, and where no round stalls polls each pending one was taken from those
-- that were left to stall.
pub record HasCauses (threshold : ℕ) (rounds : List Round) (end : RunEnd) (old new : DiskView) : Type 0 where
  pub failures : ℕ
  pub stalls : ℕ
  pub segments : end.segments ≤ 1 + (failures + stalls)
  pub death : IsTrue end.died → SEGMENTS_MAX ≤ failures + stalls
  pub rose : RoseBy failures old new
  pub pending : (stalls * threshold + polls_left new ≤ polls_left old) ⊎ StallsSome rounds

-- The numbers of the end, for so many batches. A journal that was closed has synced them all and left nothing in flight; it has a
-- segment where there is a batch, unless the script halted, and more than one only where an operation failed or was stalled; and it
-- dies only where operations failed.
pub record EndsRunAs (threshold : ℕ) (rounds : List Round) (batches : ℕ) (end : RunEnd) (old new : DiskView) : Type 0 where
  pub within : end.acked ≤ batches
  pub all : WasClosed end → end.acked ≡ batches
  pub rests : WasClosed end → NothingInFlight new
  pub begun : end.halted ≡ false → end.segments ≡ 0 → batches ≡ 0
  pub none : batches ≡ 0 → end.segments ≡ 0
  pub more : 1 < end.segments → FaultsRose old new ⊎ (PollsLeft old ⊎ StallsSome rounds)
  pub failed : IsTrue end.died → FaultsRose old new
  pub ten : IsTrue end.died → end.segments ≡ SEGMENTS_MAX
  -- where no poll may be stalled, each segment after the first is a fault of its own, and ten faults make a journal die
  pub each_fault : RoseBy (end.segments - 1) old new ⊎ (PollsLeft old ⊎ StallsSome rounds)
  pub ten_faults : IsTrue end.died → RoseBy SEGMENTS_MAX old new ⊎ (PollsLeft old ⊎ StallsSome rounds)
  -- and where polls may be, each takes a fault, or as many pending polls as the threshold says
  pub causes : HasCauses threshold rounds end old new
  -- as many creations were started; and it died just where no further segment may be begun and the operation started last has failed
  pub created : creations new.calls ≡ creations old.calls + end.segments
  pub gave_up : IsTrue end.died ↔ ((end.segments ≡ SEGMENTS_MAX) × LastHasFailed new.calls)

-- The journal of a run was closed, or died, or was left as it was, with these numbers, over the disk as it is now.
pub record HasRun (threshold : ℕ) (tells : Bool) (start : DiskView) (wal first : ℕ) (rounds : List Round) (own : List Batch) (end : RunEnd)
    (v : DiskView) : Type 0 where
  pub ends : EndsRunAs threshold rounds (length own) end start v
  pub others : IsTrue tells → OthersSame wal (files start) (files v)
  pub nothing : IsTrue tells → own ≡ [] → (p : Place) → files v p ≡ files start p
  pub keeps : IsTrue tells → HasNoSegment wal (files start) → KeepsRun wal first own end.acked (files start) (files v)
  pub read : IsTrue tells → IsRested (files start) → (FaultsRose start v → ⊥) → ReadsAsImage (files v)

-- ---- what is said

-- The replies to the rounds of a run: they are legal for these batches, each batch that is answered synced is acked, a journal that
-- died stays dead, and a limit is told exactly where too much is asked for.
pub record AnswersRun (from : ℕ) (base : List Batch) (rounds : List Round) (batches : List Batch) (replies : List (List Replied))
    (outcome : Outcome) : Type 0 where
  pub legal : AreLegal from base outcome.end.died rounds batches replies
  pub synced : AllByRecursion (SyncedAreAmong batches outcome.end.acked) replies
  pub lasting : DeathLasts replies
  pub exact : IsLimitedExactly from base outcome.end.died rounds batches replies
  pub limited : outcome.told.limited ≡ limit_told replies
  pub visible : outcome.end.visible ≡ end_after from (base ++ batches)
  pub count : outcome.end.batches ≡ length batches

-- What some work tells: a script the text of its replies, and a load how many of its keys have a value after all batches.
abbrev pub TellsWork : Work → List Batch → List (List Replied) → Told → Type 0
TellsWork (works.Script script) store replies told = told.text ≡ replies_text replies
TellsWork (works.Load load) store replies told = told.live ≡ live_keys store

-- What is said of some work that was run.
pub record SaysRun (from : ℕ) (base : List Batch) (work : Work) (batches : List Batch) (outcome : Outcome) : Type 0 where
  pub replies : List (List Replied)
  pub answers : AnswersRun from base (work_rounds work) batches replies outcome
  pub tells : TellsWork work (base ++ batches) replies outcome.told
  pub halted : outcome.end.halted ≡ halts work

-- Some work was run over a disk and a base, after which this number comes next: what is said of it, and what its journal came to.
pub record RunsWork (base : List Batch) (next : ℕ) (work : Work) (wal threshold : ℕ) (tells : Bool) (old new : DiskView) (outcome : Outcome) : Type 0 where
  pub batches : List Batch
  pub says : SaysRun (first_number next base) base work batches outcome
  pub ended : HasRun threshold tells old wal next (work_rounds work) batches outcome.end new

-- ---- inside

-- whether there is a stall
abbrev pub stalls_any : List StallLine → Bool
stalls_any [] = false
stalls_any (stall ∷ stalls) = true

-- whether a round stalls polls
abbrev pub has_stalls : Round → Bool
has_stalls round = stalls_any round.stalls

-- what a run starts from: more polls may be left to stall where a round stalls some
abbrev pub run_start : {Disk : Type 0} → (Disk → DiskView) → List Round → JournalView Disk → JournalStart
run_start view rounds journal = start_on view journal (list_any has_stalls rounds)

abbrev pub run_opening : {Disk : Type 0} → (Disk → DiskView) → List Batch → List Round → JournalView Disk → Opening
run_opening view base rounds journal = record { base = base; start = run_start view rounds journal }

-- The journal keeps what it kept, and no fewer batches are acked.
pub record GoesOnKept {Disk : Type 0} (tells : Bool) (view : Disk → DiskView) (old new : JournalView Disk) : Type 0 where
  pub outcome : (start : JournalStart) (batches : List Batch) → JournalOutcome tells start batches old.state (view old.disk)
      → JournalOutcome tells start batches new.state (view new.disk)
  pub acked : acked old.state ≤ acked new.state

-- A journal that was dead is dead.
abbrev pub RemainsDead : State → State → Type 0
RemainsDead old new = old.dead ≢ None → new.dead ≢ None

-- Unless the script halted, or the journal is dead, all batches are synced and nothing is in flight.
abbrev pub IsShutUnless : Bool → State → DiskView → Type 0
IsShutUnless halted state v = halted ≡ false → state.dead ≡ None → (acked state ≡ len state) × NothingInFlight v

-- The numbers of the end are those of the journal.
pub record TellsJournal (state : State) (v : DiskView) (end : RunEnd) : Type 0 where
  pub acked_is : end.acked ≡ acked state
  pub segments_is : end.segments ≡ length state.segments
  pub died_is : end.died ≡ is_some state.dead
  pub all : WasClosed end → acked state ≡ len state
  pub rests : WasClosed end → NothingInFlight v
  pub sound : IsSoundJournal state

-- The run has ended, with these numbers. A journal that was dead is dead.
pub record EndsJournal {Disk : Type 0} (view : Disk → DiskView) (halted : Bool) (visible batches : ℕ) (old new : JournalView Disk) (end : RunEnd) : Type 0 where
  pub visible_is : end.visible ≡ visible
  pub batches_are : end.batches ≡ batches
  pub halted_is : end.halted ≡ halted
  pub dies : RemainsDead old.state new.state
  pub tells : TellsJournal new.state (view new.disk) end

-- The journal that is handed on is as it was, or has taken some batches since the start of the run.
abbrev pub HandsOnOver : {Disk : Type 0} → Bool → (Disk → DiskView) → List Round → JournalView Disk → JournalView Disk → Type 0
HandsOnOver tells view rounds old new = (new ≡ old)
    ⊎ ((batches : List Batch) × JournalOutcome tells (run_start view rounds old) batches new.state (view new.disk))

-- Some work was run over a base and a journal: what is said of it, and what its journal came to.
pub record RunsOver {Disk : Type 0} (tells : Bool) (view : Disk → DiskView) (base : List Batch) (work : Work) (old new : JournalView Disk)
    (outcome : Outcome) : Type 0 where
  pub batches : List Batch
  pub journal : JournalOutcome tells (run_start view (work_rounds work) old) batches new.state (view new.disk)
  pub says : SaysRun (first_of (run_opening view base (work_rounds work) old)) base work batches outcome
  pub tells_end : TellsJournal new.state (view new.disk) outcome.end
