-- What one step of a journal does (docs/formats/journal.md, "The step of a journal").
use Rattle.std.specs.Prelude.{◌≡◌, ◌⊎◌, ℕ, ◌+◌, ◌<◌, max, cond, List, [], ◌∷◌, ◌++◌, length, Option, Some, None, Result, Ok, Err, nat_lt}
use Rattle.std.specs.List.{AllByRecursion}
use Rattle.disk_face.specs.declared.Side.{Side}
use Rattle.disk_face.specs.declared.OpId.{OpId}
use Rattle.disk_face.specs.declared.Progress.{Progress}
use Rattle.disk_face.specs.declared.Progress.TheVariants.{Pending}
use Rattle.disk_face.specs.View.{creating, Call, was_started, was_polled}
use Rattle.stall_monitor.specs.declared.verdict.MonitorView.{MonitorView}
use Rattle.stall_monitor.specs.Verdicts.{IsToDie, IsToSwitch}
use Rattle.log_writer.specs.declared.phase.Operation.{Operation}
use Rattle.log_writer.specs.declared.phase.Operation.TheVariants.{Create}
use Rattle.log_writer.specs.declared.phase.Phase.TheVariants.{InFlight, Broken}
use Rattle.log_writer.specs.Writer.{Writer}
use Rattle.log_writer.specs.Fits.{IsBusy, act_of, flight_on}
use Rattle.log_writer.specs.Steps.{next_operation, sent_with, after_answer}
use Rattle.failover_writer.specs.declared.fault.JournalFault.{JournalFault}
use Rattle.failover_writer.specs.declared.fault.JournalFault.TheVariants as faults
use Rattle.failover_writer.specs.declared.fault.Step.{Step}
use Rattle.failover_writer.specs.declared.fault.Step.TheVariants as steps
use Rattle.failover_writer.specs.State.{State, len, acked, is_broken, broken_count}
use Rattle.failover_writer.specs.Ranges.{side_at, releasable}

-- A record is not synced in any segment.
abbrev pub IsBehind : State → Type 0
IsBehind state = acked state < len state

abbrev pub NoneBusy : List Writer → Type 0
NoneBusy writers = AllByRecursion (λ (w : Writer). IsBusy w.phase → ⊥) writers

-- There is something to do for the current segment, if one is begun.
abbrev pub WantsMore : State → List Writer → Type 0
WantsMore state [] = Unit {0}
WantsMore state (w ∷ []) = (w.phase ≡ Broken) ⊎ ((w.written < len state) ⊎ (acked state < state.want))
WantsMore state (w ∷ v ∷ writers) = WantsMore state (v ∷ writers)

-- There is work: the journal is behind, and has no segment or something to do for its current one.
abbrev pub HasWork : State → Type 0
HasWork state = IsBehind state × WantsMore state state.segments

-- Something is in flight, or there is work.
abbrev pub IsActive : State → Type 0
IsActive state = NoneBusy state.segments → HasWork state

-- Nothing is in flight, and there is no work.
abbrev pub IsAtRest : State → Type 0
IsAtRest state = NoneBusy state.segments × (HasWork state → ⊥)

-- ---- polls

-- The first of the segments that is busy was polled, if one is, and its writer noted the answer.
pub data PollsFirst : List Writer → Option Progress → List Writer → Type 0 where
  none : (writers : List Writer) → NoneBusy writers → PollsFirst writers None writers
  polled : (front : List Writer) (w : Writer) (back : List Writer) (operation : Operation) (id : OpId) (answer : Progress) → NoneBusy front
      → w.phase ≡ InFlight operation id
      → PollsFirst (front ++ w ∷ back) (Some answer) (front ++ after_answer operation answer w ∷ back)

-- The first busy one of the earlier segments was polled, and then the current one where it is busy.
pub data Polls (state : State) : Option Progress → Option Progress → State → Type 0 where
  nothing_begun : state.segments ≡ [] → Polls state None None state
  asked : (earlier : List Writer) (current : Writer) (one other : Option Progress) (earlier' : List Writer) (current' : Writer)
      → state.segments ≡ earlier ++ current ∷ []
      → PollsFirst earlier one earlier' → PollsFirst (current ∷ []) other (current' ∷ [])
      → Polls state one other (record state { segments = earlier' ++ current' ∷ [] })

-- ---- what is begun or started then

-- what the monitor is shown of this segment
abbrev pub shown_to_monitor : State → Writer → MonitorView
shown_to_monitor state current = record {
  opened = length state.segments;
  broken = is_broken current;
  waiting = current.waiting;
  threshold = state.threshold;
  behind = nat_lt (acked state) (len state);
}

-- This is said of what the monitor is shown of the current segment.
pub record Verdict (Says : MonitorView → Type 0) (state : State) : Type 0 where
  pub earlier : List Writer
  pub current : Writer
  pub segments_are : state.segments ≡ earlier ++ current ∷ []
  pub says : Says (shown_to_monitor state current)

-- The monitor says neither to die nor to switch.
abbrev pub IsToStay : MonitorView → Type 0
IsToStay view = (IsToDie view → ⊥) × (IsToSwitch view → ⊥)

-- a new segment, of which the creation was started
abbrev pub begun : State → OpId → Writer → Type 0
begun state id w = (w.side ≡ side_at (length state.segments)) × (w.name ≡ record { wal = state.wal; index = length state.segments })
    × (w.from ≡ acked state) × (w.sent ≡ acked state) × (w.written ≡ acked state)
    × (w.synced ≡ acked state) × (w.waiting ≡ 0) × (w.phase ≡ InFlight Create id)

-- how many are left by a stall as the next segment is begun: the current one, if it is not broken
abbrev pub left_behind : List Writer → ℕ
left_behind [] = 0
left_behind (w ∷ []) = cond (is_broken w) 0 1
left_behind (w ∷ v ∷ writers) = left_behind (v ∷ writers)

-- The next segment is begun at the end of what is synced.
pub record BeginsNext (old new : State) : Type 0 where
  pub id : OpId
  pub writer : Writer
  pub fresh : begun old id writer
  pub new_is : new ≡ record old { segments = old.segments ++ writer ∷ []; left_by_stall = old.left_by_stall + left_behind old.segments }

-- The current segment's next operation is started.
pub record StartsNext (old new : State) : Type 0 where
  pub earlier : List Writer
  pub current : Writer
  pub operation : Operation
  pub id : OpId
  pub size : ℕ
  pub place : ℕ
  pub segments_are : old.segments ≡ earlier ++ current ∷ []
  pub next : next_operation current.phase current.written (record { len = len old; want = old.want; acked = acked old }) ≡ Some operation
  pub new_is : new ≡ record old {
    segments = earlier ++ record current
        { sent = sent_with operation (len old) current.sent; size = size; place = place; waiting = 0; phase = InFlight operation id } ∷ [];
  }

-- Records that no segment needs any more leave the queue, and nothing else changes.
pub record Releases (old new : State) : Type 0 where
  pub start : new.queue.start ≡ max old.queue.start (releasable old)
  pub end : len new ≡ len old
  pub new_is : new ≡ record old { queue = new.queue }

-- What a step answers where it starts what it can: pending where a poll of it was.
abbrev pub moved_or_waited : Option Progress → Option Progress → Step
moved_or_waited (Some Pending) other = steps.Waited
moved_or_waited one (Some Pending) = steps.Waited
moved_or_waited one other = steps.Moved

-- No segment has an operation of that id in flight.
abbrev pub NoneFlies : OpId → List Writer → Type 0
NoneFlies id writers = AllByRecursion (λ (w : Writer). (operation : Operation) → w.phase ≡ InFlight operation id → ⊥) writers

-- After its polls a step begins the next segment where the monitor says so, or segment 0 where there is none and the journal is
-- behind; else it starts what comes next on the current segment, where that is at rest and the journal is behind, if anything does.
-- What it starts has an id that no operation in flight has.
pub data ActsAfterPolls (polled : State) : State → Type 0 where
  first : (new : State) → polled.segments ≡ [] → IsBehind polled → BeginsNext polled new → ActsAfterPolls polled new
  none_to_begin : polled.segments ≡ [] → (IsBehind polled → ⊥) → ActsAfterPolls polled polled
  switches : (new : State) → Verdict IsToSwitch polled → (begins : BeginsNext polled new) → NoneFlies begins.id polled.segments
      → ActsAfterPolls polled new
  starts : (new : State) → Verdict IsToStay polled → IsBehind polled → (next : StartsNext polled new) → NoneFlies next.id polled.segments
      → ActsAfterPolls polled new
  stays : Verdict IsToStay polled → (IsBehind polled → (new : State) → StartsNext polled new → ⊥) → ActsAfterPolls polled polled

-- It is not dead, and has something in flight or work.
pub record IsUp (state : State) : Type 0 where
  pub lives : state.dead ≡ None
  pub wants : IsActive state

-- Its current segment, the last that may be begun, is broken: this is the end of it.
pub record Dies (old new : State) (side : Side) (faults : ℕ) : Type 0 where
  pub verdict : Verdict IsToDie old
  pub side_is : side ≡ verdict.current.side
  pub faults_are : faults ≡ broken_count old
  pub new_is : new ≡ record old { dead = Some (record { side = side; faults = faults }) }

-- The rule of the step: what it does and answers, by what its polls were answered.
pub data StepRule (old : State) : Option Progress → Option Progress → State → Result Step JournalFault → Type 0 where
  was_dead : (side : Side) (count : ℕ) → old.dead ≡ Some (record { side = side; faults = count }) → StepRule old None None old (Err (faults.Dead side count))
  idle : old.dead ≡ None → NoneBusy old.segments → (HasWork old → ⊥) → StepRule old None None old (Ok steps.Idle)
  dies : (one other : Option Progress) (polled new : State) (side : Side) (count : ℕ) → IsUp old → Polls old one other polled
      → Dies polled new side count → StepRule old one other new (Err (faults.Dead side count))
  goes : (one other : Option Progress) (polled started new : State) → IsUp old → Polls old one other polled → ActsAfterPolls polled started
      → Releases started new → StepRule old one other new (Ok (moved_or_waited one other))
  short : (one other : Option Progress) (polled : State) → IsUp old → Polls old one other polled → (Verdict IsToDie polled → ⊥)
      → StepRule old one other polled (Err faults.NoMemory)

-- ---- what a step asks of the disk, the last call first

abbrev pub calls_of_poll : {writers : List Writer} {answer : Option Progress} {polled : List Writer} → PollsFirst writers answer polled → List Call
calls_of_poll (none writers rest) = []
calls_of_poll (polled front w back operation id answer rest phase) = was_polled id answer ∷ []

abbrev pub calls_of_polls : {state : State} {one other : Option Progress} {polled : State} → Polls state one other polled → List Call
calls_of_polls (nothing_begun empty) = []
calls_of_polls (asked earlier current one other earlier' current' are early late) = calls_of_poll late ++ calls_of_poll early

-- the creation of a segment that is begun
abbrev pub creation_of : {old new : State} → BeginsNext old new → Call
creation_of begins = was_started begins.id (flight_on creating begins.writer)

-- the operation that is started on the current segment
abbrev pub start_of : {old new : State} → StartsNext old new → Call
start_of next = was_started next.id (flight_on (act_of next.operation) next.current)

abbrev pub calls_of_act : {polled started : State} → ActsAfterPolls polled started → List Call
calls_of_act (first new empty behind begins) = creation_of begins ∷ []
calls_of_act (none_to_begin empty rests) = []
calls_of_act (switches new verdict begins fresh) = creation_of begins ∷ []
calls_of_act (starts new verdict behind next fresh) = start_of next ∷ []
calls_of_act (stays verdict rests) = []

-- its polls, each once, and then an operation at most: nothing else
abbrev pub calls_of : {old : State} {one other : Option Progress} {new : State} {answer : Result Step JournalFault}
    → StepRule old one other new answer → List Call
calls_of (was_dead side count is) = []
calls_of (idle lives rests no_work) = []
calls_of (dies one other done new side count up polls dying) = calls_of_polls polls
calls_of (goes one other done started new up polls acts releases) = calls_of_act acts ++ calls_of_polls polls
calls_of (short one other done up polls lives) = calls_of_polls polls
