-- What the steps of a settling and of a closing come to. Nothing of it is seen from outside.
use Rattle.std.specs.Prelude.{◌≡◌, Bool, Result, Ok, OnOk, IfErr}
use Rattle.disk_face.specs.View.{DiskView}
use Rattle.failover_writer.specs.declared.fault.JournalFault.{JournalFault}
use Rattle.failover_writer.specs.declared.fault.Step.{Step}
use Rattle.failover_writer.specs.declared.fault.Step.TheVariants as steps
use Rattle.failover_writer.specs.State.{State, JournalView}
use Rattle.failover_writer.specs.Answered.{StepsBy, StepsOn, Settles, IsIdle, IsMarked, PollsFell, last_answer}
use Rattle.failover_writer.specs.Lasting.{Lasts}

-- Steps were made until one was idle, or ended with a fault.
pub record Drains {Disk : Type 0} (tells : Bool) (view : Disk → DiskView) (old new : JournalView Disk) (answer : Result Unit JournalFault) : Type 0 where
  pub mid : State
  pub v : DiskView
  pub steps : StepsOn old.state (view old.disk) mid v
  pub last : StepsBy mid new.state v (view new.disk) (last_answer answer)
  pub want : new.state.want ≡ old.state.want
  pub lasts : Lasts tells view old new
  pub idle : OnOk answer (IsIdle new.state)
  pub marked : IfErr answer (IsMarked new.state)

-- Steps were made as long as they moved, and what holds of them.
pub record Moves {Disk : Type 0} (tells : Bool) (view : Disk → DiskView) (old new : JournalView Disk) (answer : Result Step JournalFault) : Type 0 where
  pub settles : Settles old.state new.state (view old.disk) (view new.disk) answer
  pub want : new.state.want ≡ old.state.want
  pub lasts : Lasts tells view old new
  pub idle : answer ≡ Ok steps.Idle → IsIdle new.state
  pub waited : answer ≡ Ok steps.Waited → PollsFell (view old.disk) (view new.disk)
  pub marked : IfErr answer (IsMarked new.state)
