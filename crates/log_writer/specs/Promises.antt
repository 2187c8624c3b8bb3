-- What the calls of a writer promise, in words over its disk (docs/formats/journal.md, "The writer of a segment").
use Rattle.std.specs.Prelude.{◌≡◌, ◌≢◌, ◌≤◌, ℕ, Bool, Option, Some, None, List, [], ◌∷◌, length, IsTrue}
use Rattle.disk_face.specs.declared.Side.{Side}
use Rattle.disk_face.specs.declared.SegName.{SegName}
use Rattle.disk_face.specs.declared.OpId.{OpId}
use Rattle.disk_face.specs.declared.Progress.{Progress}
use Rattle.disk_face.specs.View.{Place, segment, Act, Files, DiskView, files, was_started, was_polled, Makes, IsFree, AtEachMoment}
use Rattle.disk_face.specs.Calls.{MayStart, Starts, ChangesFile, Polled, after_start}
use Rattle.batch_repr.specs.declared.batch.Batch.{Batch}
use Rattle.record_queue.specs.Queue.{Queue}
use Rattle.log_writer.specs.declared.goal.Goal.{Goal}
use Rattle.log_writer.specs.declared.phase.Operation.{Operation}
use Rattle.log_writer.specs.declared.phase.Phase.{Phase}
use Rattle.log_writer.specs.declared.phase.Phase.TheVariants.{New, InFlight}
use Rattle.log_writer.specs.Writer.{Writer}
use Rattle.log_writer.specs.Fits.{place_of_writer, act_of, flight_on, IsUnsent, Fits, SameFile}
use Rattle.log_writer.specs.Kept.{SegmentKept}
use Rattle.log_writer.specs.Steps.{IsQueueOf, next_operation, BeginsJust, TakesPoll, after_answer}
use Rattle.log_writer.specs.Sending.{frames_of}

-- ---- a new writer

-- a writer that has started nothing
abbrev pub unstarted : Side → SegName → ℕ → ℕ → Writer
unstarted side name log from = record {
  side = side;
  name = name;
  log = log;
  from = from;
  sent = from;
  written = from;
  synced = from;
  size = 0;
  synced_bytes = 0;
  place = 0;
  waiting = 0;
  phase = New;
}

-- It fits any disk on which nothing is in flight on its file, and nothing was sent to it.
abbrev pub FitsIfUnsent : Side → SegName → ℕ → Writer → Type 0
FitsIfUnsent side name from w =
    (tells : Bool) (records : List Batch) (v : DiskView) → from ≤ length records → IsFree v (segment side name)
    → (IsTrue tells → IsUnsent (files v (segment side name))) → Fits tells records w v

-- ---- what holds across a call

-- The writer fits the disk, for some records.
abbrev pub FitsSome : Bool → Writer → DiskView → Type 0
FitsSome tells w v = (records : List Batch) × Fits tells records w v

-- The writer fits the disk, for the records of a run that the queue holds.
abbrev pub FitsQueue : Bool → Queue → Writer → DiskView → Type 0
FitsQueue tells queue w v = (records : List Batch) × Fits tells records w v × IsQueueOf records queue

-- The writer fits after the call, for the records for which it fitted before.
abbrev pub StaysFitting : Bool → Writer → Writer → DiskView → DiskView → Type 0
StaysFitting tells old new before after = (records : List Batch) → Fits tells records old before → Fits tells records new after

-- It does, where the queue holds the records of the run.
abbrev pub StaysFittingQueue : Bool → Queue → Writer → Writer → DiskView → DiskView → Type 0
StaysFittingQueue tells queue old new before after = (records : List Batch) → Fits tells records old before → IsQueueOf records queue
    → Fits tells records new after

-- the segment of the writer is kept by these files, with what it has synced
abbrev pub KeepsSynced : Writer → List Batch → Files → Type 0
KeepsSynced w records now = SegmentKept (place_of_writer w) w.log w.from w.synced records now

-- At each moment of the call a crash leaves the segment, with what was synced before.
abbrev pub KeptThroughout : Bool → Writer → DiskView → DiskView → Type 0
KeptThroughout tells w before after = (records : List Batch) → Fits tells records w before → IsTrue tells
    → AtEachMoment before.clock after (KeepsSynced w records)

-- It does, where the queue holds the records of the run.
abbrev pub QueueKept : Bool → Queue → Writer → DiskView → DiskView → Type 0
QueueKept tells queue w before after =
    (records : List Batch) → Fits tells records w before → IsQueueOf records queue → IsTrue tells → AtEachMoment before.clock after (KeepsSynced w records)

-- After the call a crash leaves the segment, with what is synced then.
abbrev pub KeptAfter : Bool → Writer → Writer → DiskView → DiskView → Type 0
KeptAfter tells old new before after = (records : List Batch) → Fits tells records old before → IsTrue tells → KeepsSynced new records (files after)

-- Every file but the writer's stays as it was, with its operations in flight.
abbrev pub SameElsewhere : Bool → Writer → DiskView → DiskView → Type 0
SameElsewhere tells w before after = (place : Place) → place ≢ place_of_writer w → SameFile tells place before after

-- At each moment of the call every file but the writer's is as it was.
abbrev pub RestUntouched : Bool → Writer → DiskView → DiskView → Type 0
RestUntouched tells w before after =
    IsTrue tells → AtEachMoment before.clock after (λ (now : Files). (place : Place) → place ≢ place_of_writer w → now place ≡ files before place)

-- ---- a start

-- The operation with this act may be started on the writer's file.
abbrev pub MayStartOwn : Bool → Act → Writer → DiskView → Type 0
MayStartOwn tells act w v = IsTrue tells → MayStart act (files v (place_of_writer w))

-- One operation more is in flight, with this act on the writer's file.
abbrev pub StartsOn : Act → Writer → DiskView → DiskView → OpId → Type 0
StartsOn act w before after id = Starts (flight_on act w) w.side id before after

-- The disk was asked to start it, and for nothing else.
abbrev pub AsksToStart : Act → Writer → DiskView → DiskView → OpId → Type 0
AsksToStart act w before after id = Makes (was_started id (flight_on act w) ∷ []) before after

-- The writer's file changes as this act is started, with the frames of all records up to `len` where it is a write.
abbrev pub SendsUpTo : Bool → Act → Queue → ℕ → Writer → DiskView → DiskView → Type 0
SendsUpTo tells act queue len w before after = IsTrue tells → ChangesFile (place_of_writer w)
    (λ f g. g ≡ after_start act (frames_of queue w len) f) before after

-- The writer's file changes so where this operation is started.
abbrev pub SendsJust : Option Operation → Bool → Queue → ℕ → Writer → DiskView → DiskView → Type 0
SendsJust None tells queue len w before after = Unit {0}
SendsJust (Some operation) tells queue len w before after = SendsUpTo tells (act_of operation) queue len w before after

-- The writer's file changes as the next operation of the goal is started. A write sends all records up to `len`, each with what a
-- completed sync covers of the file now as its sync offset.
abbrev pub SendsForGoal : Bool → Queue → Goal → Writer → DiskView → DiskView → Type 0
SendsForGoal tells queue goal w before after = SendsJust (next_operation w.phase w.written goal) tells queue goal.len w before after

-- The next operation of the goal was started, and nothing where there is none.
abbrev pub StartsForGoal : Goal → Writer → Writer → DiskView → DiskView → Bool → Type 0
StartsForGoal goal old new before after started = BeginsJust (next_operation old.phase old.written goal) goal.len started old new before after

-- ---- a poll

-- what holds of the operation in flight
abbrev pub OfFlight : Phase → (Operation → OpId → Type 0) → Type 0
OfFlight phase P = (operation : Operation) (id : OpId) → phase ≡ InFlight operation id → P operation id

-- The disk was polled for the operation in flight, and gave this answer.
abbrev pub IsAsked : Bool → Phase → DiskView → DiskView → Progress → Type 0
IsAsked tells phase before after answer = OfFlight phase (λ (operation : Operation) (id : OpId). Polled tells id before after answer)

-- The writer has taken the answer for its operation in flight.
abbrev pub HasTaken : Progress → Writer → Writer → Type 0
HasTaken answer old new = OfFlight old.phase (λ (operation : Operation) (id : OpId). new ≡ after_answer operation answer old)

-- A pending answer takes one poll, on the side of the operation in flight.
abbrev pub TakesItsPoll : Phase → Progress → DiskView → DiskView → Type 0
TakesItsPoll phase answer before after = OfFlight phase (λ (operation : Operation) (id : OpId). TakesPoll id answer before after)

-- The disk was asked once, for the operation in flight, and gave this answer.
abbrev pub PollsOnce : Phase → DiskView → DiskView → Progress → Type 0
PollsOnce phase before after answer = OfFlight phase (λ (operation : Operation) (id : OpId). Makes (was_polled id answer ∷ []) before after)
