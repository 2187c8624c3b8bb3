-- What a step and a closing answer, and what their polls tell of the disk (docs/formats/journal.md, "The step of a journal").
use Rattle.std.specs.Prelude.{◌≡◌, ◌≢◌, ◌⊎◌, ℕ, ◌+◌, ◌<◌, ◌≤◌, length, Option, Some, None, Result, Ok, Err}
use Rattle.std.specs.List.{AllByRecursion}
use Rattle.wal_base.specs.Faults.{Rose, COUNT_END}
use Rattle.disk_face.specs.declared.Side.{Side}
use Rattle.disk_face.specs.declared.Side.TheVariants.{Primary, Secondary}
use Rattle.disk_face.specs.declared.Progress.{Progress}
use Rattle.disk_face.specs.declared.Progress.TheVariants.{Pending, Done, Failed}
use Rattle.disk_face.specs.View.{Makes, DiskView}
use Rattle.log_writer.specs.declared.phase.Phase.TheVariants.{Broken}
use Rattle.log_writer.specs.Writer.{Writer}
use Rattle.failover_writer.specs.declared.fault.JournalFault.{JournalFault}
use Rattle.failover_writer.specs.declared.fault.JournalFault.TheVariants as faults
use Rattle.failover_writer.specs.declared.fault.Step.{Step}
use Rattle.failover_writer.specs.declared.fault.Step.TheVariants as steps
use Rattle.log_writer.specs.Steps.{pending_polls}
use Rattle.failover_writer.specs.State.{State, len, broken_count}
use Rattle.failover_writer.specs.Remaining.{polls_left}
use Rattle.failover_writer.specs.Stepping.{NoneBusy, HasWork, StepRule, calls_of}

-- the count of faults of some side rose
abbrev pub FaultsRose : DiskView → DiskView → Type 0
FaultsRose before after = (side : Side) × Rose (before.faults side) (after.faults side)

-- the polls left to stall on some side fell
abbrev pub PollsFell : DiskView → DiskView → Type 0
PollsFell before after = (side : Side) × (after.polls_left side < before.polls_left side)

-- A poll was pending only where polls left fell, and failed only where faults rose.
abbrev pub IsTold : DiskView → DiskView → Option Progress → Type 0
IsTold before after None = Unit {0}
IsTold before after (Some Pending) = PollsFell before after
IsTold before after (Some Done) = Unit {0}
IsTold before after (Some Failed) = FaultsRose before after

-- how many polls were pending, of one that was made or not
abbrev pub pending_count : Option Progress → ℕ
pending_count None = 0
pending_count (Some answer) = pending_polls answer

-- how many polls failed, of one that was made or not
abbrev pub failed_polls : Progress → ℕ
failed_polls Pending = 0
failed_polls Done = 0
failed_polls Failed = 1

abbrev pub failed_count : Option Progress → ℕ
failed_count None = 0
failed_count (Some answer) = failed_polls answer

-- the counts of faults of both sides together
abbrev pub faults_of : DiskView → ℕ
faults_of v = v.faults Primary + v.faults Secondary

-- The faults of both sides together rose by so many at least, or the count of a side stands at its end.
abbrev pub RoseBy : ℕ → DiskView → DiskView → Type 0
RoseBy count before after = (faults_of before + count ≤ faults_of after) ⊎ ((side : Side) × (COUNT_END ≤ after.faults side))

-- A step by its rule, of which the polls were answered as the disk tells. Each pending answer took one of the polls left, and
-- nothing else took any: so no segment was polled twice while it was pending. The disk was asked for just what the rule asks for.
pub record StepsBy (old new : State) (before after : DiskView) (answer : Result Step JournalFault) : Type 0 where
  pub one : Option Progress
  pub other : Option Progress
  pub rule : StepRule old one other new answer
  pub one_told : IsTold before after one
  pub other_told : IsTold before after other
  pub taken : polls_left after + (pending_count one + pending_count other) ≡ polls_left before
  pub counted : RoseBy (failed_count one + failed_count other) before after
  pub asks : Makes (calls_of rule) before after

-- It is not dead, nothing is in flight, and there is no work.
pub record IsIdle (state : State) : Type 0 where
  pub lives : state.dead ≡ None
  pub rests : NoneBusy state.segments
  pub no_work : HasWork state → ⊥

-- A journal that answers that it is dead has the mark of it.
abbrev pub IsMarked : State → JournalFault → Type 0
IsMarked state (faults.Dead side count) = state.dead ≡ Some (record { side = side; faults = count })
IsMarked state faults.NoMemory = Unit {0}

-- It is dead, or an operation on a segment of it has failed.
abbrev pub IsHarmed : State → Type 0
IsHarmed state = (state.dead ≢ None) ⊎ (1 ≤ broken_count state)

-- The operation on the segment, if any, was not pending, and none has failed.
abbrev pub IsSmoothSegment : Writer → Type 0
IsSmoothSegment w = (w.waiting ≡ 0) × (w.phase ≢ Broken)

-- No segment was left by a stall, and none has an operation that was pending.
pub record IsUnstalled (state : State) : Type 0 where
  pub left : state.left_by_stall ≡ 0
  pub waiting : AllByRecursion (λ (w : Writer). w.waiting ≡ 0) state.segments

-- Nothing has gone wrong: it is not dead, at most one segment was begun, no operation was pending and none has failed.
pub record IsSmooth (state : State) : Type 0 where
  pub lives : state.dead ≡ None
  pub few : length state.segments ≤ 1
  pub segments : AllByRecursion IsSmoothSegment state.segments

-- Steps one after another, none of which ended with a fault.
pub data StepsOn (first : State) (before : DiskView) : State → DiskView → Type 0 where
  none : StepsOn first before first before
  one_more : (mid new : State) (v after : DiskView) (answer : Step) → StepsOn first before mid v → StepsBy mid new v after (Ok answer)
      → StepsOn first before new after

-- Steps one after another, each of which moved.
pub data MovesOn (first : State) (before : DiskView) : State → DiskView → Type 0 where
  none : MovesOn first before first before
  one_more : (mid new : State) (v after : DiskView) → MovesOn first before mid v → StepsBy mid new v after (Ok steps.Moved) → MovesOn first before new after

-- Steps were made as long as they moved. The last one is idle, has waited, or ends with a fault, and its answer is given.
pub record Settles (old new : State) (before after : DiskView) (answer : Result Step JournalFault) : Type 0 where
  pub mid : State
  pub v : DiskView
  pub moves : MovesOn old before mid v
  pub last : StepsBy mid new v after answer
  pub ends : answer ≢ Ok steps.Moved

-- how the last step of a closing is answered: idle, or with its fault
abbrev pub last_answer : Result Unit JournalFault → Result Step JournalFault
last_answer (Ok done) = Ok steps.Idle
last_answer (Err fault) = Err fault

-- All records are to be synced, and steps are made until one is idle or ends with a fault.
pub record ClosesBy (old new : State) (before after : DiskView) (answer : Result Unit JournalFault) : Type 0 where
  pub mid : State
  pub v : DiskView
  pub steps : StepsOn (record old { want = len old }) before mid v
  pub last : StepsBy mid new v after (last_answer answer)
