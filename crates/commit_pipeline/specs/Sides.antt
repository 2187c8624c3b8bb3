-- What contracts see behind the two locks, and what is done there (docs/formats/ring.md, "The commit").
use Rattle.std.specs.Prelude.{◌≡◌, ℕ, List, [], ◌∷◌, ◌++◌, Bool, Result}
use Rattle.batch_repr.specs.declared.batch.Batch.{Batch}
use Rattle.disk_face.specs.View.{DiskView}
use Rattle.failover_writer.specs.declared.fault.Step.{Step}
use Rattle.failover_writer.specs.declared.fault.JournalFault.{JournalFault}
use Rattle.failover_writer.specs.State.{State, JournalView, acked}
use Rattle.failover_writer.specs.Moves.{Pushes}
use Rattle.failover_writer.specs.Outcome.{JournalStart, JournalOutcome}
use Rattle.record_queue.specs.declared.node.Filled.{Filled}
use Rattle.record_flow.specs.declared.rule.FlowView.{FlowView}
use Rattle.record_flow.specs.Views.{records_of}
use Rattle.record_flow.specs.Flows.{WasEmpty}
use Rattle.commit_queue.specs.declared.view.View.{View}
use Rattle.commit_queue.specs.Calls.{RaisesAcked}
use Rattle.commit_queue.specs.Shown.{HasLookedSince}
use Rattle.commit_pipeline.specs.Logging.{SettlesJournal, FallsUnlessAcked}

-- behind the commit lock: the number that comes next, how many batches are numbered, and the records that were sent
pub record CommitView : Type 0 where
  pub next : ℕ
  pub placed : ℕ
  pub sent : List Filled

-- behind the flush lock: the journal with its disk, and what the pass that pops and the seat that raises the acked word know
pub record FlushView (Disk : Type 0) : Type 0 where
  pub journal : JournalView Disk
  pub flow : FlowView
  pub seat : View

-- These records were pushed, one after another.
abbrev pub PushesAll : List Filled → State → State → Type 0
PushesAll [] old new = new ≡ old
PushesAll (f ∷ fs) old new = (mid : State) × Pushes f.rec f.sync old mid × PushesAll fs mid new

-- These records were taken and pushed, and nothing was written: the journal holds what it held since any start, and these after it.
pub record MovesThese {Disk : Type 0} (tells : Bool) (view : Disk → DiskView) (moved : List Filled) (flow : FlowView) (old : JournalView Disk)
    (flow' : FlowView) (new : JournalView Disk) : Type 0 where
  pub taken : flow' ≡ record flow { taken = flow.taken ++ moved }
  pub pushes : PushesAll moved old.state new.state
  pub disk : new.disk ≡ old.disk
  pub dead : new.state.dead ≡ old.state.dead
  pub acked_is : acked new.state ≡ acked old.state
  pub holds : (start : JournalStart) (batches : List Batch) → JournalOutcome tells start batches old.state (view old.disk)
      → JournalOutcome tells start (batches ++ records_of moved) new.state (view new.disk)

-- The records that were found on their way were moved.
abbrev pub MovesNodes : {Disk : Type 0} → Bool → (Disk → DiskView) → FlowView → JournalView Disk → FlowView → JournalView Disk → Type 0
MovesNodes tells view flow old flow' new = (moved : List Filled) × MovesThese tells view moved flow old flow' new

-- Behind the lock they were, and nothing else was done.
pub record MovesIn {Disk : Type 0} (tells : Bool) (view : Disk → DiskView) (old new : FlushView Disk) : Type 0 where
  pub moves : MovesNodes tells view old.flow old.journal new.flow new.journal
  pub seat : new.seat ≡ old.seat

-- The acked word was raised to what the journal has synced now, as far as batches are admitted.
abbrev pub AcksSynced : {Disk : Type 0} → FlushView Disk → FlushView Disk → Type 0
AcksSynced old new = (raised : ℕ) × RaisesAcked old.seat (acked new.journal.state) raised new.seat

-- It was raised so, after head was looked at once more than before.
pub record HasAckedSynced {Disk : Type 0} (old new : FlushView Disk) : Type 0 where
  pub before : FlushView Disk
  pub since : HasLookedSince old.seat new.seat
  pub acks : AcksSynced before new

-- They were moved until none was found, and then the journal was stepped as long as a step moved, which the acked word followed.
pub record DrivesJournal {Disk : Type 0} (tells : Bool) (view : Disk → DiskView) (old new : FlushView Disk) : Type 0 where
  pub mid : FlushView Disk
  pub moves : MovesIn tells view old mid
  pub emptied : WasEmpty mid.flow
  pub settles : SettlesJournal view mid.journal new.journal
  pub acks : AcksSynced mid new
  pub flow : new.flow ≡ mid.flow

-- They were moved until none was found, and then the journal was stepped once, with this answer, for the batch of this place, which the
-- acked word followed.
pub record StepsFor {Disk : Type 0} (tells : Bool) (view : Disk → DiskView) (index : ℕ) (old new : FlushView Disk)
    (answer : Result Step JournalFault) : Type 0 where
  pub mid : FlushView Disk
  pub moves : MovesIn tells view old mid
  pub emptied : WasEmpty mid.flow
  pub falls : FallsUnlessAcked view index mid.journal new.journal answer
  pub acks : AcksSynced mid new
  pub flow : new.flow ≡ mid.flow
