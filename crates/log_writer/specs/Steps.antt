-- What the calls of a writer start and answer (docs/formats/journal.md, "The next operation of a segment").
use Rattle.std.specs.Prelude.{◌≡◌, ◌≢◌, ℕ, ◌+◌, ◌≤◌, min, Bool, true, false, not, ◌&&◌, List, [], ◌∷◌, length, drop, nat_lt, if◌then◌else◌, Option, Some, None}
use Rattle.disk_face.specs.declared.Side.{Side}
use Rattle.disk_face.specs.declared.OpId.{OpId}
use Rattle.disk_face.specs.declared.Progress.{Progress}
use Rattle.disk_face.specs.declared.Progress.TheVariants.{Pending, Done, Failed}
use Rattle.disk_face.specs.View.{was_started, Makes, DiskView}
use Rattle.disk_face.specs.Calls.{Starts}
use Rattle.batch_repr.specs.declared.batch.Batch.{Batch}
use Rattle.record_queue.specs.Queue.{Queue}
use Rattle.log_writer.specs.declared.goal.Goal.{Goal}
use Rattle.log_writer.specs.declared.polling.TheConstants.{WAITING_MAX}
use Rattle.log_writer.specs.declared.phase.Operation.{Operation}
use Rattle.log_writer.specs.declared.phase.Operation.TheVariants.{Create, Write, Sync}
use Rattle.log_writer.specs.declared.phase.Phase.{Phase}
use Rattle.log_writer.specs.declared.phase.Phase.TheVariants.{New, InFlight, Idle, Broken}
use Rattle.log_writer.specs.Writer.{Writer}
use Rattle.log_writer.specs.Fits.{act_of, flight_on}

-- The queue holds the records of a run from its start on.
pub record IsQueueOf (records : List Batch) (queue : Queue) : Type 0 where
  pub start : queue.start ≤ length records
  pub holds : queue.records ≡ drop queue.start records

-- The queue holds every record from one number to below another.
pub record HoldsPart (queue : Queue) (from to : ℕ) : Type 0 where
  pub start : queue.start ≤ from
  pub end : to ≤ queue.start + length queue.records

-- a sync where one is wanted of what is written, else a write where there are more records, else none
abbrev pub next_of_created : ℕ → Goal → Option Operation
next_of_created written goal =
    if nat_lt goal.acked goal.want && not (nat_lt written goal.want) then Some Sync else (if nat_lt written goal.len then Some Write else None)

-- the next operation of a segment: its creation where that is not completed
abbrev pub next_operation : Phase → ℕ → Goal → Option Operation
next_operation New written goal = Some Create
next_operation (InFlight operation id) written goal = None
next_operation Idle written goal = next_of_created written goal
next_operation Broken written goal = None

-- the end of what writes were started for: a write sends all records
abbrev pub sent_with : Operation → ℕ → ℕ → ℕ
sent_with Create len sent = sent
sent_with Write len sent = len
sent_with Sync len sent = sent

-- One operation more is in flight, on the writer's file, and it is the writer's. The disk was asked for nothing else.
pub record Begins (operation : Operation) (len : ℕ) (old new : Writer) (before after : DiskView) : Type 0 where
  pub id : OpId
  pub size : ℕ
  pub place : ℕ
  pub starts : Starts (flight_on (act_of operation) old) old.side id before after
  pub noted : Makes (was_started id (flight_on (act_of operation) old) ∷ []) before after
  pub moved : new ≡ record old { sent = sent_with operation len old.sent; size = size; place = place; waiting = 0; phase = InFlight operation id }

-- The operation was started, and nothing where there is none.
abbrev pub BeginsJust : Option Operation → ℕ → Bool → Writer → Writer → DiskView → DiskView → Type 0
BeginsJust None len started old new before after = (started ≡ false) × (new ≡ old) × (after ≡ before)
BeginsJust (Some operation) len started old new before after = (started ≡ true) × Begins operation len old new before after

-- what completed writes cover, once an operation is done
abbrev pub written_with : Operation → Writer → ℕ
written_with Create w = w.written
written_with Write w = w.sent
written_with Sync w = w.written

-- what a completed sync covers, once an operation is done: what was written as it started
abbrev pub synced_with : Operation → Writer → ℕ
synced_with Create w = w.synced
synced_with Write w = w.synced
synced_with Sync w = w.written

-- how many bytes a completed sync covers, once an operation is done: all that were sent as it started
abbrev pub bytes_with : Operation → Writer → ℕ
bytes_with Create w = w.synced_bytes
bytes_with Write w = w.synced_bytes
bytes_with Sync w = w.size

-- the writer once its operation is answered
abbrev pub after_answer : Operation → Progress → Writer → Writer
after_answer operation Pending w = record w { waiting = min WAITING_MAX (w.waiting + 1) }
after_answer operation Done w = record w { written = written_with operation w; synced = synced_with operation w; synced_bytes = bytes_with operation w; waiting = 0; phase = Idle }
after_answer operation Failed w = record w { phase = Broken }

-- one poll where the answer is pending
abbrev pub pending_polls : Progress → ℕ
pending_polls Pending = 1
pending_polls Done = 0
pending_polls Failed = 0

-- A pending answer takes one of the polls left on the side of the operation, and no answer takes any other.
pub record TakesPoll (id : OpId) (answer : Progress) (before after : DiskView) : Type 0 where
  pub its : after.polls_left id.side + pending_polls answer ≡ before.polls_left id.side
  pub others : (side : Side) → side ≢ id.side → after.polls_left side ≡ before.polls_left side
