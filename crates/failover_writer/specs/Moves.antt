-- What the parts of a step do. Nothing of it is seen from outside.
use Rattle.std.specs.Prelude.{◌≡◌, ◌≢◌, ℕ, ◌+◌, ◌-◌, ◌<◌, Bool, true, false, List, [], ◌∷◌, ◌++◌, length, take, drop, Option, Some, None, slice_get, ◌||◌, if◌then◌else◌}
use Rattle.batch_repr.specs.declared.batch.Batch.{Batch}
use Rattle.batch_repr.specs.Batches.{end_of}
use Rattle.disk_face.specs.declared.OpId.{OpId}
use Rattle.disk_face.specs.declared.Progress.{Progress}
use Rattle.disk_face.specs.declared.Progress.TheVariants.{Pending, Done, Failed}
use Rattle.disk_face.specs.View.{was_polled, Makes, DiskView}
use Rattle.disk_face.specs.Calls.{Polled}
use Rattle.log_writer.specs.declared.phase.Operation.{Operation}
use Rattle.log_writer.specs.declared.phase.Phase.TheVariants.{InFlight, Broken}
use Rattle.log_writer.specs.Writer.{Writer}
use Rattle.log_writer.specs.Fits.{IsBusy}
use Rattle.log_writer.specs.Steps.{after_answer, pending_polls}
use Rattle.failover_writer.specs.declared.fault.JournalFault.{JournalFault}
use Rattle.failover_writer.specs.declared.fault.JournalFault.TheVariants as faults
use Rattle.failover_writer.specs.State.{State, len}
use Rattle.stall_monitor.specs.Verdicts.{IsToDie}
use Rattle.failover_writer.specs.Stepping.{IsBehind, NoneBusy, Verdict, BeginsNext, StartsNext, NoneFlies, ActsAfterPolls, Dies, Polls}
use Rattle.failover_writer.specs.Stepping.{calls_of_polls, creation_of, start_of, calls_of_act}
use Rattle.failover_writer.specs.Answered.{IsTold, pending_count, failed_polls, failed_count, RoseBy}
use Rattle.failover_writer.specs.Remaining.{polls_left}

abbrev pub is_pending : Progress → Bool
is_pending Pending = true
is_pending Done = false
is_pending Failed = false

-- whether an answer, if one was given, is pending
abbrev pub was_pending : Option Progress → Bool
was_pending None = false
was_pending (Some answer) = is_pending answer

-- The segment at this place is busy.
abbrev pub IsBusyAt : ℕ → State → Type 0
IsBusyAt index state = (w : Writer) × (slice_get state.segments index ≡ Some w) × IsBusy w.phase

-- The segment at this place was polled, and its writer noted the answer.
pub record PollsAt (tells : Bool) (index : ℕ) (old new : State) (before after : DiskView) (pending : Bool) : Type 0 where
  pub writer : Writer
  pub operation : Operation
  pub id : OpId
  pub answer : Progress
  pub stood : slice_get old.segments index ≡ Some writer
  pub phase : writer.phase ≡ InFlight operation id
  pub polled : Polled tells id before after answer
  pub taken : polls_left after + pending_polls answer ≡ polls_left before
  pub counted : RoseBy (failed_polls answer) before after
  pub asks : Makes (was_polled id answer ∷ []) before after
  pub pending_is : pending ≡ is_pending answer
  pub new_is : new ≡ record old { segments = take index old.segments ++ after_answer operation answer writer ∷ drop (index + 1) old.segments }

-- The polls of a step, as the disk tells, and whether one was pending.
pub record PollsAll (old new : State) (before after : DiskView) (pending : Bool) : Type 0 where
  pub one : Option Progress
  pub other : Option Progress
  pub polls : Polls old one other new
  pub one_told : IsTold before after one
  pub other_told : IsTold before after other
  pub taken : polls_left after + (pending_count one + pending_count other) ≡ polls_left before
  pub counted : RoseBy (failed_count one + failed_count other) before after
  pub asks : Makes (calls_of_polls polls) before after
  pub pending_is : pending ≡ (was_pending one || was_pending other)

-- The first busy segment before the current one stands at this place.
pub record IsFirstBusy (index : ℕ) (state : State) : Type 0 where
  pub before_current : index < length state.segments - 1
  pub busy : IsBusyAt index state
  pub first : NoneBusy (take index state.segments)

-- The next segment was begun, and the disk asked for its creation, and for nothing else.
pub record BeginsOnDisk (old new : State) (before after : DiskView) : Type 0 where
  pub begins : BeginsNext old new
  pub fresh : NoneFlies begins.id old.segments
  pub asks : Makes (creation_of begins ∷ []) before after

-- The next operation of the current segment is started, where it is at rest and the journal is behind and has one. The disk is asked
-- for that, and for nothing else.
pub data MayStartNext (old : State) (before after : DiskView) : State → Type 0 where
  started : (new : State) → IsBehind old → (next : StartsNext old new) → NoneFlies next.id old.segments → Makes (start_of next ∷ []) before after
      → MayStartNext old before after new
  nothing : (IsBehind old → (new : State) → StartsNext old new → ⊥) → Makes [] before after → MayStartNext old before after old

-- What a step does after its polls, and what it asks of the disk for that.
pub record ActsOnDisk (old new : State) (before after : DiskView) : Type 0 where
  pub acts : ActsAfterPolls old new
  pub asks : Makes (calls_of_act acts) before after

-- The current segment is the one at this index, and it is at rest: no operation of it is in flight, and none has failed.
pub record IsRestingAt (index : ℕ) (segments : List Writer) : Type 0 where
  pub earlier : List Writer
  pub current : Writer
  pub segments_are : segments ≡ earlier ++ current ∷ []
  pub index_is : index ≡ length earlier
  pub not_busy : IsBusy current.phase → ⊥
  pub not_broken : current.phase ≢ Broken

-- No segment is begun, or the current one is not at rest.
abbrev pub NoneRests : List Writer → Type 0
NoneRests segments = (earlier : List Writer) (current : Writer) → segments ≡ earlier ++ current ∷ [] → (IsBusy current.phase → ⊥) → current.phase ≡ Broken

-- Why nothing goes on: the journal gives up, or memory ran out and it was not to give up.
abbrev pub EndsGoing : State → State → JournalFault → Type 0
EndsGoing old new (faults.Dead side count) = Dies old new side count
EndsGoing old new faults.NoMemory = (new ≡ old) × (Verdict IsToDie old → ⊥)

-- The record is added after the others; with `sync` all of them are to be synced.
pub record Pushes (added : Batch) (sync : Bool) (old new : State) : Type 0 where
  pub start : new.queue.start ≡ old.queue.start
  pub records : new.queue.records ≡ old.queue.records ++ added ∷ []
  pub next : new.next ≡ end_of added
  pub want : new.want ≡ (if sync then len new else old.want)
  pub new_is : new ≡ record old { queue = new.queue; next = new.next; want = new.want }
