-- What a session commits with, and what the calls behind the lock leave of it. Nothing of it is seen from outside.
use Rattle.std.specs.Prelude.{◌≡◌, ℕ, ◌+◌, ◌≤◌, [], length, Option, None, Some, Result, Err}
use Rattle.std.specs.declared.sync.ledger.Share.{Share}
use Rattle.atomic_table.specs.Seated.{TableId}
use Rattle.failover_writer.specs.declared.fault.JournalFault.{JournalFault}
use Rattle.failover_writer.specs.declared.fault.JournalFault.TheVariants as faults
use Rattle.commit_queue.specs.Seats.{session_table}
use Rattle.commit_queue.specs.Shown.{SeatShown, HasFreeHands, session_shown}
use Rattle.commit_pipeline.specs.Openings.{Opening}
use Rattle.commit_pipeline.specs.declared.desk.Desk.{Desk}
use Rattle.commit_pipeline.specs.Commits.{TellsDeath}

-- A seat of the pipeline's table that holds no batch, with shares of one part each.
pub record IsIdleDesk (table : TableId) (opening : Opening) (seat : TableId) (v : SeatShown) (own_parts dead_parts told_parts : ℕ) : Type 0 where
  pub of_table : seat ≡ table
  pub base : v.base ≡ opening.start.state.next
  pub idle : HasFreeHands v
  pub none : v.pieces ≡ []
  pub within : v.published ≤ length v.history
  pub own_part : own_parts ≡ 1
  pub dead_part : dead_parts ≡ 1
  pub told_part : told_parts ≡ 1

-- So it is of a session's desk.
abbrev pub IsDeskIdle : {N M : Type 0} → TableId → Opening → Desk N M → Type 0
IsDeskIdle table opening desk =
    IsIdleDesk table opening (session_table desk.seat) (session_shown desk.seat) desk.own.parts desk.dead.parts desk.told.parts

-- so many deaths it knows of
abbrev pub known : {N M : Type 0} → Desk N M → ℕ
known desk = desk.dead.amount + desk.told.amount

-- A share stands for so many more.
abbrev pub Raises : {L : Type 0} → Share L → ℕ → Share L → Type 0
Raises old more new = (new.parts ≡ old.parts) × (new.amount ≡ old.amount + more)

-- A fault of the journal tells of a death, or that it is out of memory.
abbrev pub TellsFault : JournalFault → Type 0
TellsFault (faults.Dead side count) = TellsDeath side count
TellsFault faults.NoMemory = Unit {0}

-- so many answers more told of a death, where a step ended with this fault
abbrev pub deaths_by : JournalFault → ℕ
deaths_by (faults.Dead side count) = 1
deaths_by faults.NoMemory = 0

-- where it ended so
abbrev pub deaths_stepped : {A : Type 0} → Result A JournalFault → ℕ
deaths_stepped (Err fault) = deaths_by fault
deaths_stepped _ = 0

-- so many, where the lock was taken at all
abbrev pub deaths_led : Option (Result (Unit {0}) JournalFault) → ℕ
deaths_led None = 0
deaths_led (Some led) = deaths_stepped led
