-- What a pipeline is opened on (docs/formats/ring.md, "What a pipeline holds").
use Rattle.std.specs.Prelude.{◌≡◌, ℕ, Bool, List, [], ◌∷◌, Some}
use Rattle.batch_repr.specs.declared.batch.Batch.{Batch}
use Rattle.batch_repr.specs.Batches.{IsContiguous, end_after}
use Rattle.disk_face.specs.View.{DiskView}
use Rattle.failover_writer.specs.State.{State, JournalView}
use Rattle.failover_writer.specs.Outcome.{JournalStart, start_on, IsUnbegun}
use Rattle.failover_writer.specs.Sound.{HasGivenUp}
use Rattle.failover_writer.specs.declared.fault.DeadMark.{DeadMark}

-- What a pipeline was made of: the batches of the store, and the start of the journal that goes on after them.
pub record Opening : Type 0 where
  pub base : List Batch
  pub start : JournalStart

-- the first number of the store: that of its first batch, or the journal's where there is none
abbrev pub first_number : ℕ → List Batch → ℕ
first_number next [] = next
first_number next (batch ∷ batches) = batch.first

abbrev pub first_of : Opening → ℕ
first_of opening = first_number opening.start.state.next opening.base

-- The batches are numbered one after another, and this number comes next.
pub record EndsBefore (base : List Batch) (next : ℕ) : Type 0 where
  pub contiguous : IsContiguous (first_number next base) base
  pub ends : end_after (first_number next base) base ≡ next

-- The journal goes on after the base. It has no record yet.
pub record IsOpened (tells : Bool) (opening : Opening) : Type 0 where
  pub base : EndsBefore opening.base opening.start.state.next
  pub unbegun : IsUnbegun tells opening.start

-- what a pipeline is made of: a base, and a journal with its disk
abbrev pub opening_on : {Disk : Type 0} → (Disk → DiskView) → List Batch → JournalView Disk → Bool → Opening
opening_on view base journal may_stall = record { base = base; start = start_on view journal may_stall }

-- The journal is dead, with this mark: it has given up, on the secondary side, after a failure at least.
pub record IsDeadBy (journal : State) (mark : DeadMark) : Type 0 where
  pub dead : journal.dead ≡ Some mark
  pub given_up : HasGivenUp journal mark
