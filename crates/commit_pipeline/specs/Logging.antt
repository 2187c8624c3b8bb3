-- How a journal is stepped (docs/formats/ring.md, "The commit").
use Rattle.std.specs.Prelude.{◌⊎◌, ℕ, ◌<◌, Result, IfOk}
use Rattle.disk_face.specs.View.{DiskView}
use Rattle.failover_writer.specs.declared.fault.Step.{Step}
use Rattle.failover_writer.specs.declared.fault.JournalFault.{JournalFault}
use Rattle.failover_writer.specs.State.{State, JournalView, acked}
use Rattle.failover_writer.specs.Stepping.{HasWork}
use Rattle.failover_writer.specs.Remaining.{measure}
use Rattle.failover_writer.specs.Answered.{Settles}

-- The journal was stepped as long as a step moved.
pub record StepsWhileMoving (old new : State) (before after : DiskView) : Type 0 where
  pub answer : Result Step JournalFault
  pub settles : Settles old new before after answer

-- A journal with its disk was stepped as long as a step moved.
abbrev pub SettlesJournal : {Disk : Type 0} → (Disk → DiskView) → JournalView Disk → JournalView Disk → Type 0
SettlesJournal view old new = StepsWhileMoving old.state new.state (view old.disk) (view new.disk)

-- A step that ends with no fault leaves fewer steps to come, where there was work; or the batch of this place is synced.
abbrev pub FallsUnlessAcked : {Disk : Type 0} → (Disk → DiskView) → ℕ → JournalView Disk → JournalView Disk → Result Step JournalFault → Type 0
FallsUnlessAcked view index old new answer = IfOk answer (λ step. HasWork old.state
    → (measure new.state (view new.disk) < measure old.state (view old.disk)) ⊎ (index < acked new.state))
